use Rattle.std.proofs.Common.{arith}
use borrow.Author.Tests.{tests}
use Rattle.rules.specs.Tests.{leaving_port, from_answering_side}
use Rattle.octets.specs.Index.{◌and◌}
use Rattle.octets.specs.Choice.{◌then◌otherwise◌}
use Rattle.packet.proofs.ReadLaws.{parts_hops}
use Rattle.judging.proofs.leaving.leaving_port.Goals as goal

pub returns-then-from_answering_side : goal.returns-then-from_answering_side
unfolding leaving_port from_answering_side ◌and◌ ◌then◌otherwise◌
returns-then-from_answering_side c = grind (arith, tests, parts_hops)

pub returns-in-ByPath : goal.returns-in-ByPath
unfolding leaving_port from_answering_side ◌and◌ ◌then◌otherwise◌
returns-in-ByPath c = grind (arith, tests, parts_hops)

pub returns-else-from_answering_side : goal.returns-else-from_answering_side
unfolding leaving_port from_answering_side ◌and◌ ◌then◌otherwise◌
returns-else-from_answering_side c = grind (arith, tests, parts_hops)

pub returns-in-ByReturn : goal.returns-in-ByReturn
unfolding leaving_port from_answering_side ◌and◌ ◌then◌otherwise◌
returns-in-ByReturn c = grind (arith, tests, parts_hops)

pub returns-in-Everywhere : goal.returns-in-Everywhere
unfolding leaving_port from_answering_side ◌and◌ ◌then◌otherwise◌
returns-in-Everywhere c = grind (arith, tests, parts_hops)

pub returns-in-Everywhere-2 : goal.returns-in-Everywhere-2
unfolding leaving_port from_answering_side ◌and◌ ◌then◌otherwise◌
returns-in-Everywhere-2 c = grind (arith, tests, parts_hops)
