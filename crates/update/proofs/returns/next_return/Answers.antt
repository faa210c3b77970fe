use Rattle.tables.specs.Layout.{relay_of}
use Rattle.update.proofs.returns.next_return.Goals as goal

pub returns : goal.returns
unfolding relay_of
returns c = c.number_at.ensures
