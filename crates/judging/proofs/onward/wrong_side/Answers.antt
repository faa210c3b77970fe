use Rattle.std.proofs.Common.{arith}
use borrow.Author.Tests.{tests}
use Rattle.rules.specs.Tests.{wrong_side, from_answering_side, from_asking_side}
use Rattle.octets.specs.Index.{◌and◌}
use Rattle.octets.specs.Choice.{◌or◌, ◌then◌otherwise◌}
use Rattle.packet.proofs.ReadLaws.{parts_hops}
use Rattle.judging.proofs.onward.wrong_side.Goals as goal

pub returns-then-is_link_proof : goal.returns-then-is_link_proof
unfolding wrong_side from_answering_side from_asking_side ◌and◌ ◌or◌ ◌then◌otherwise◌
returns-then-is_link_proof c = grind (arith, tests, parts_hops)

pub returns-else-is_link_proof : goal.returns-else-is_link_proof
unfolding wrong_side from_answering_side from_asking_side ◌and◌ ◌or◌ ◌then◌otherwise◌
returns-else-is_link_proof c = grind (arith, tests, parts_hops)

pub returns-else-not-from_answering_side : goal.returns-else-not-from_answering_side
unfolding wrong_side from_answering_side from_asking_side ◌and◌ ◌or◌ ◌then◌otherwise◌
returns-else-not-from_answering_side c = grind (arith, tests, parts_hops)

pub returns-in-ByReturn : goal.returns-in-ByReturn
unfolding wrong_side from_answering_side from_asking_side ◌and◌ ◌or◌ ◌then◌otherwise◌
returns-in-ByReturn c = grind (arith, tests, parts_hops)

pub returns-in_default : goal.returns-in_default
unfolding wrong_side from_answering_side from_asking_side ◌and◌ ◌or◌ ◌then◌otherwise◌
returns-in_default c = grind (arith, tests, parts_hops)
