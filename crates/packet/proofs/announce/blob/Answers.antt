use Rattle.packet.specs.Announce.{blob_of}
use Rattle.octets.specs.Part.{part}
use Rattle.packet.proofs.announce.blob.Goals as goal

pub returns : goal.returns
unfolding blob_of part
returns c = c.copy_from_slice.ensures.after
