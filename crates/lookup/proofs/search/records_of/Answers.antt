use Prim.Native.Nat.{◌*◌}
use Rattle.octets.proofs.Part.{part_range}
use Rattle.lookup.proofs.search.records_of.Goals as goal

pub returns-clause-bytes : goal.returns-clause-bytes
returns-clause-bytes c = part_range c.args.tables.now c.args.table.at (c.args.table.width * c.args.table.count)
