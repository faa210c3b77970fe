use Rattle.tables.specs.Layout.{relay_of}
use Rattle.lookup.proofs.own_address.Goals as goal

pub returns : goal.returns
unfolding relay_of
returns c = c.address_at.ensures
