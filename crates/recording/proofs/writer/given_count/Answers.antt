use mathlib.Core.Path.{refl}
use Rattle.recording.specs.Writer.{given_count}
use Rattle.recording.proofs.writer.given_count.Goals as goal

pub returns : goal.returns
unfolding given_count
returns c = refl
