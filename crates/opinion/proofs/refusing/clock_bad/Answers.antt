use Rattle.std.proofs.Common.{arith}
use borrow.Author.Tests.{tests}
use Rattle.octets.specs.Choice.{◌or◌}
use Rattle.opinion.proofs.refusing.clock_bad.Goals as goal

pub returns-then-clock-ge-CLOCK_LIMIT : goal.returns-then-clock-ge-CLOCK_LIMIT
unfolding ◌or◌
returns-then-clock-ge-CLOCK_LIMIT c = grind (arith, tests)

pub returns-else-clock-ge-CLOCK_LIMIT : goal.returns-else-clock-ge-CLOCK_LIMIT
unfolding ◌or◌
returns-else-clock-ge-CLOCK_LIMIT c = grind (arith, tests)
