use Rattle.octets.proofs.Part.{patch_set}
use Rattle.octets.proofs.set_at.Goals as goal

pub returns : goal.returns
returns c = patch_set c.args.t.now c.args.at c.args.v c.requires
