use Rattle.tables.specs.Layout.{relay_of}
use Rattle.update.proofs.hashes.next_hash.Goals as goal

pub returns : goal.returns
unfolding relay_of
returns c = c.number_at.ensures
