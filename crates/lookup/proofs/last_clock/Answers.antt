use Rattle.tables.specs.Layout.{relay_of}
use Rattle.lookup.proofs.last_clock.Goals as goal

pub returns : goal.returns
unfolding relay_of
returns c = c.number_of_8_at.ensures
