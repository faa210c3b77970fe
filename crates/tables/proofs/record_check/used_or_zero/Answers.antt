use Rattle.std.proofs.lemmas.Grind.{common_steps}
use native.Mathlib.Omega.{arith}
use borrow.Author.Tests.{tests}
use Rattle.octets.specs.Choice.{◌or◌}
use Rattle.tables.specs.Groups.{used_or_zero}
use Rattle.tables.proofs.record_check.used_or_zero.Goals as goal

pub returns-then-b-eq1 : goal.returns-then-b-eq1
unfolding used_or_zero ◌or◌
returns-then-b-eq1 c = grind (arith, common_steps, tests)

pub returns-else-b-eq1 : goal.returns-else-b-eq1
unfolding used_or_zero ◌or◌
returns-else-b-eq1 c = grind (arith, common_steps, tests)
