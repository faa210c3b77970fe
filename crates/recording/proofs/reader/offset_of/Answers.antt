use Rattle.recording.specs.Shape.{offset_of}
use Rattle.recording.proofs.reader.offset_of.Goals as goal

pub returns : goal.returns
unfolding offset_of
returns c = c.number_at.ensures
