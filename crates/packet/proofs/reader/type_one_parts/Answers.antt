use Rattle.packet.specs.Read.{type_one_parts}
use Rattle.packet.proofs.reader.type_one_parts.Goals as goal

pub returns : goal.returns
unfolding type_one_parts
returns c = rw c.address_at-destination.ensures
