use Rattle.std.proofs.Common.{arith}
use borrow.Author.Tests.{tests}
use Rattle.rules.specs.Tests.{of_known, revives}
use Rattle.octets.specs.Index.{◌and◌}
use Rattle.judging.proofs.onward.tested.Goals as goal

pub returns-in_default : goal.returns-in_default
unfolding of_known revives ◌and◌
returns-in_default c = grind (arith, tests)

pub returns : goal.returns
unfolding of_known revives ◌and◌
returns c = grind (arith, tests)
