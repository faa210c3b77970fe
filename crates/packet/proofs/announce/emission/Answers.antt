use Rattle.packet.specs.Announce.{emission_of}
use Rattle.packet.proofs.announce.emission.Goals as goal

pub returns : goal.returns
unfolding emission_of
returns c = c.number_at.ensures
