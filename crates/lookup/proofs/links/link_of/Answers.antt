use Rattle.tables.specs.Records.{link_of}
use Rattle.lookup.proofs.links.link_of.Goals as goal

pub returns : goal.returns
unfolding link_of
returns c = rw (c.address_at.ensures, c.number_of_8_at.ensures)
