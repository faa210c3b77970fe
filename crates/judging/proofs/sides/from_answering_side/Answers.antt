use Rattle.std.proofs.Common.{rules, arith}
use borrow.Author.Tests.{tests}
use Rattle.octets.specs.Index.{◌and◌}
use Rattle.judging.proofs.sides.from_answering_side.Goals as goal

pub returns-then-port-link : goal.returns-then-port-link
unfolding ◌and◌
returns-then-port-link c = search (rules, tests)

pub returns-else-port-link : goal.returns-else-port-link
unfolding ◌and◌
returns-else-port-link c = grind (arith, tests)
