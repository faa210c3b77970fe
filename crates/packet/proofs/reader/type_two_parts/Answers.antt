use Rattle.packet.specs.Read.{type_two_parts}
use Rattle.packet.proofs.reader.type_two_parts.Goals as goal

pub returns : goal.returns
unfolding type_two_parts
returns c = rw (c.address_at-relay.ensures, c.address_at-destination.ensures)
