use Rattle.update.proofs.PathWrites.{start_written}
use native.Mathlib.Omega.{arith}
use Rattle.update.proofs.paths.put_start.Goals as goal

pub returns : goal.returns
returns c =
    let a = c.args in
    rw (c.write.ensures, c.none.ensures, c.write_rate.ensures, c.put_head.ensures)
    (start_written a.tables.now a.at a.path (omega (arith, c.requires)))
