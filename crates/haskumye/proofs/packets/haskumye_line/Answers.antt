use Rattle.haskumye.proofs.packets.haskumye_line.Goals as goal

pub returns : goal.returns
returns c = ((cc), (cc))
