use Prim.Native.Nat.{◌+◌}
use native.Mathlib.Omega.{arith}
use borrow.Author.Rules.{rules}
use mathlib.Core.Path.{◌≡◌}
use lib.ListN.{length, get_or}
use Rattle.octets.proofs.Part.{patch_set}
use Rattle.tables.specs.Places.{blob_width}
use Rattle.update.proofs.PathWrites.{added, pushed}
use Rattle.update.proofs.blobs.add_blob.Goals as goal

pub returns-then-count-lt-BLOB_LIMIT : goal.returns-then-count-lt-BLOB_LIMIT
returns-then-count-lt-BLOB_LIMIT c =
    let a = c.args in
    let wide : length a.blob ≡ blob_width = search rules in
    rw (c.copy_at.ensures, c.from-count.ensures, patch_set a.s.now 0 (get_or a.s.now 0 0 + 1) (omega (arith, c.requires)))
    (added a.s.now c.requires a.blob wide (omega (arith, c.from-count.ensures, c.if-count-lt-BLOB_LIMIT.true)))

pub returns-else-count-lt-BLOB_LIMIT : goal.returns-else-count-lt-BLOB_LIMIT
returns-else-count-lt-BLOB_LIMIT c =
    let a = c.args in
    let wide : length a.blob ≡ blob_width = search rules in
    pushed a.s.now c.requires a.blob wide _ (omega (arith, c.from-count.ensures, c.if-count-lt-BLOB_LIMIT.false)) c.push_blob.ensures
