use Rattle.std.proofs.Common.{arith}
use borrow.Author.Tests.{tests}
use Rattle.octets.specs.Index.{◌and◌}
use Rattle.packet.proofs.ReadLaws.{parts_hops}
use Rattle.judging.proofs.onward.not_better.Goals as goal

pub returns-then-emission-greatest_emission : goal.returns-then-emission-greatest_emission
unfolding ◌and◌
returns-then-emission-greatest_emission c = grind (arith, tests, parts_hops)

pub returns-else-emission-greatest_emission : goal.returns-else-emission-greatest_emission
unfolding ◌and◌
returns-else-emission-greatest_emission c = grind (arith, tests, parts_hops)
