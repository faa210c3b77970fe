use Rattle.packet.specs.Read.{payload}
use Rattle.packet.proofs.reader.payload.Goals as goal

pub returns : goal.returns
unfolding payload
returns c = rw (c.from.ensures, c.payload_start.ensures, c.header_of.ensures)
