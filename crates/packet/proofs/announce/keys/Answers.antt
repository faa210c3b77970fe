use Rattle.packet.specs.Announce.{keys_of}
use Rattle.packet.proofs.announce.keys.Goals as goal

pub returns : goal.returns
unfolding keys_of
returns c = c.part_of.ensures
