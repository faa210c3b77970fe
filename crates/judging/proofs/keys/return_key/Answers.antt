use mathlib.Core.Path.{ap, ◌∙◌}
use lib.ListN.{take}
use Rattle.octets.specs.Part.{part}
use Rattle.numbers.specs.Numbers.{address_width}
use Rattle.judging.proofs.keys.return_key.Goals as goal

pub returns : goal.returns
unfolding part
returns c = c.address_at.ensures ∙ ap (take address_width) c.hash_of.ensures
