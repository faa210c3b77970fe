use Prim.Native.Nat.{ℕ, ◌+◌, ◌*◌}
use Rattle.tables.specs.Places.{paths_at, path_width}
use Rattle.update.specs.Written.{path_written}
use Rattle.update.proofs.PathWrites.{path_put_lem}
use native.Mathlib.Omega.{arith}
use Rattle.update.proofs.paths.put_new_path.Goals as goal

pub returns : goal.returns
unfolding path_written
returns c =
    let a = c.args in
    let at : ℕ = paths_at + path_width * a.place in
    path_put_lem a.tables.now _ at a.path (omega (arith, c.requires.0, c.requires.1)) c.put_start.ensures _ _
    c.one_blob.ensures
