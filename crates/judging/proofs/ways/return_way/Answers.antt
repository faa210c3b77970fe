use Rattle.std.proofs.Common.{arith}
use borrow.Author.Tests.{tests}
use Rattle.rules.specs.Ways.{return_way}
use Rattle.judging.proofs.ways.return_way.Goals as goal

pub returns-in-None : goal.returns-in-None
unfolding return_way
returns-in-None c = grind (arith, tests)

pub returns-in-Some : goal.returns-in-Some
unfolding return_way
returns-in-Some c = grind (arith, tests)
