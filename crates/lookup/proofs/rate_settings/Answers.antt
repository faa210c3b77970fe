use Rattle.tables.specs.Layout.{relay_of}
use Rattle.lookup.proofs.rate_settings.Goals as goal

pub returns : goal.returns
unfolding relay_of
returns c = rw (c.number_at.ensures, c.number_at-2.ensures, c.number_at-3.ensures)
