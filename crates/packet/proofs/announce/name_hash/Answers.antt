use Rattle.packet.specs.Announce.{name_hash_of}
use Rattle.packet.proofs.announce.name_hash.Goals as goal

pub returns : goal.returns
unfolding name_hash_of
returns c = c.part_of.ensures
