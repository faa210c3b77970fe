use mathlib.Core.Path.{refl}
use Rattle.rules.specs.Calls.{new_tally}
use Rattle.replaying.proofs.new_tally.Goals as goal

pub returns : goal.returns
unfolding new_tally
returns c = refl
