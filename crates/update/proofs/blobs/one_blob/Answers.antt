use Prim.Native.Nat.{ℕ, ◌+◌}
use native.Mathlib.Omega.{arith}
use borrow.Author.Rules.{rules}
use mathlib.Core.Path.{◌≡◌, ap, ◌∙◌}
use lib.ListN.{length, replicate, length-replicate}
use Rattle.octets.specs.Part.{patch}
use Rattle.octets.proofs.Part.{patch_range, range_length}
use Rattle.tables.specs.Places.{blob_width}
use Rattle.update.proofs.PathWrites.{one_written}
use Rattle.tables.specs.Fields.{blob_places_at}
use Rattle.update.specs.Written.{newer_width}
use Rattle.update.proofs.blobs.one_blob.Goals as goal

pub returns : goal.returns
returns c =
    let s = c.copy_at.new.t in
    let a = c.args in
    let wide : length a.blob ≡ blob_width = search rules in
    let long : length s ≡ length a.s.now = search rules in
    let zeros : c.fill.new.self ≡ replicate newer_width 0 =
    c.fill.ensures.after (λ y h. h) ∙ ap (λ (k : ℕ). replicate k 0) (range_length s (blob_places_at + blob_width) newer_width (omega (arith, long, c.requires))) in
    patch_range s (blob_places_at + blob_width) newer_width c.fill.new.self (ap length zeros ∙ length-replicate {A = ℕ} newer_width 0)
    ∙ ap (patch s (blob_places_at + blob_width)) zeros ∙ rw (c.copy_at.ensures, c.set_at.ensures) (one_written a.s.now a.blob c.requires wide)
