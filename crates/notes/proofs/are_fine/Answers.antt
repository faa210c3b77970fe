use Rattle.notes.proofs.NoteLaws.{fine_is}
use Rattle.notes.proofs.are_fine.Goals as goal

pub returns : goal.returns
returns c = fine_is c.args.b.now c.args.at
