use Prim.Native.Nat.{◌+◌}
use native.Mathlib.Omega.{arith}
use borrow.Author.Rules.{rules}
use mathlib.Core.Path.{◌≡◌}
use lib.ListN.{length}
use Rattle.tables.specs.Places.{blob_width}
use Rattle.tables.specs.Fields.{blob_places_at}
use Rattle.update.specs.Written.{newer_width}
use Rattle.update.proofs.PathWrites.{moved, all_moved}
use Rattle.update.proofs.blobs.push_blob.Goals as goal

pub returns : goal.returns
returns c =
    let a = c.args in
    let wide : length a.blob ≡ blob_width = search rules in
    rw (c.copy_at.ensures, c.copy_within.ensures.after, moved a.s.now blob_places_at (blob_places_at + blob_width) newer_width (omega (arith, c.requires)))
    (all_moved a.s.now c.requires a.blob wide)
