use Rattle.octets.specs.Part.{part}
use Rattle.packet.proofs.hash.first_sixteen.Goals as goal

pub returns : goal.returns
unfolding part
returns c = c.address_at.ensures
