use Rattle.std.proofs.Common.{arith}
use Rattle.rules.specs.Writes.{link_record}
use Rattle.packet.proofs.ReadLaws.{parts_hops}
use Rattle.judging.proofs.records.link_record.Goals as goal

pub returns : goal.returns
unfolding link_record
returns c = grind (arith, parts_hops)
