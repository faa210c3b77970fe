use mathlib.Core.Path.{refl}
use Rattle.text.specs.Text.{text_of}
use Rattle.text.proofs.empty.Goals as goal

pub returns : goal.returns
unfolding text_of
returns c = refl
