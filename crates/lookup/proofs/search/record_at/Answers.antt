use Prim.Native.Nat.{◌+◌, ◌*◌}
use Rattle.octets.proofs.Part.{part_range, range_length}
use Rattle.lookup.proofs.search.record_at.Goals as goal

pub returns : goal.returns
returns c =
    let a = c.args in
    (part_range a.tables.now (a.at + a.width * a.place) a.width, range_length a.tables.now (a.at + a.width * a.place) a.width c.requires)
