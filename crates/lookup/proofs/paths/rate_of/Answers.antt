use Rattle.tables.specs.Records.{path_of}
use Rattle.lookup.proofs.paths.rate_of.Goals as goal

pub returns : goal.returns
unfolding path_of
returns c = rw (c.number_of_8_at.ensures, c.number_of_8_at-2.ensures)
