use Rattle.std.proofs.Common.{arith}
use borrow.Author.Tests.{tests}
use Rattle.octets.specs.Choice.{◌or◌}
use Rattle.opinion.proofs.settings.setting_bad.Goals as goal

pub returns-then-mode : goal.returns-then-mode
unfolding ◌or◌
returns-then-mode c = grind (arith, tests)

pub returns-else-mode : goal.returns-else-mode
unfolding ◌or◌
returns-else-mode c = grind (arith, tests)
