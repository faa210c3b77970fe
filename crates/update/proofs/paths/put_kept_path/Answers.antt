use Prim.Native.Nat.{◌+◌, ◌*◌}
use Rattle.tables.specs.Places.{paths_at, path_width}
use Rattle.update.specs.Written.{path_written}
use Rattle.update.proofs.PathWrites.{path_kept}
use native.Mathlib.Omega.{arith}
use Rattle.update.proofs.paths.put_kept_path.Goals as goal

pub returns : goal.returns
unfolding path_written
returns c =
    let a = c.args in
    path_kept a.tables.now _ (paths_at + path_width * a.place) a.path (omega (arith, c.requires.0, c.requires.1)) c.put_start.ensures
