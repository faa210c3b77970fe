use Rattle.std.proofs.lemmas.Grind.{common_steps}
use native.Mathlib.Omega.{arith}
use borrow.Author.Tests.{tests}
use Rattle.octets.specs.Index.{◌and◌}
use Rattle.octets.specs.Index.{all_below}
use Rattle.tables.proofs.plain_check.four_marked.Goals as goal

pub returns-then-t-width-2 : goal.returns-then-t-width-2
unfolding all_below ◌and◌
returns-then-t-width-2 c = grind (arith, common_steps, tests)

pub returns-else-t-width-2 : goal.returns-else-t-width-2
unfolding all_below ◌and◌
returns-else-t-width-2 c = grind (arith, common_steps, tests)
