use Prim.Native.Nat.{◌≤◌}
use lib.ListN.{length}
use Prim.Native.Nat.{ℕ, ◌+◌, ◌*◌}
use mathlib.Core.Path.{ap, ◌∙◌}
use Rattle.numbers.specs.Numbers.{blob_limit}
use Rattle.rules.specs.Relay.{Blobs}
use Rattle.rules.specs.Blobs.{add_blob}
use Rattle.tables.specs.Places.{paths_at, path_width}
use Rattle.tables.specs.Records.{blobs_bytes}
use Rattle.update.specs.Written.{path_written}
use Rattle.update.proofs.PathWrites.{path_put_lem, blobs_kept}
use native.Mathlib.Omega.{arith}
use Rattle.update.proofs.paths.put_known_path.Goals as goal

pub returns : goal.returns
unfolding path_written
returns c =
    let a = c.args in
    let at : ℕ = paths_at + path_width * a.place in
    let fits : at + path_width ≤ length a.tables.now = omega (arith, c.requires.0, c.requires.1) in
    path_put_lem a.tables.now _ at a.path fits c.put_start.ensures _ _
    (c.add_blob.ensures ∙ ap (λ (s : Blobs). blobs_bytes (add_blob blob_limit a.blob s))
    (blobs_kept a.tables.now _ at a.path fits c.put_start.ensures))
