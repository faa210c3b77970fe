use mathlib.Core.Path.{refl}
use Rattle.recording.specs.Reader.{word_of}
use Rattle.recording.proofs.reader.word_of.Goals as goal

pub returns : goal.returns
unfolding word_of
returns c = refl
