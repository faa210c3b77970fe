use Rattle.update.specs.Written.{notes_written}
use Rattle.update.proofs.paths.put_notes.Goals as goal

pub returns : goal.returns
unfolding notes_written
returns c = c.write.ensures
