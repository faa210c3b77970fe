use Prim.Native.Nat.{ℕ, ◌+◌, ◌-◌, ◌*◌}
use lib.ListN.{take, drop, get_or}
use mathlib.Core.List.{List}
use mathlib.Core.Path.{◌≡◌, refl, sym, ap, ◌∙◌}
use Rattle.std.proofs.Common.{rules}
use Rattle.octets.proofs.Part.{part_range}
use Rattle.tables.specs.Records.{blobs_of}
use Rattle.std.specs.Simd.{first_chunks}
use Rattle.tables.specs.Places.{blob_width}
use Rattle.tables.specs.Fields.{path_places_at, path_blobs_at}
use Rattle.lookup.proofs.HeldBlobs.{held_chunks}
use Rattle.lookup.proofs.blobs.held_in.Goals as goal

count_of : (b : List ℕ) → (blobs_of b).count ≡ get_or b path_blobs_at 0
unfolding blobs_of
count_of b = refl

pub slice_bounds-result-end : goal.slice_bounds-result-end
unfolding blobs_of
slice_bounds-result-end c = search rules

pub returns-clause-long : goal.returns-clause-long
unfolding blobs_of
returns-clause-long c = search rules

pub returns-clause-blobs : goal.returns-clause-blobs
returns-clause-blobs c =
    let b = c.args.b.now in
    let n : ℕ = (blobs_of b).count in
    let count = c.from-count.ensures ∙ sym (count_of b) in
    (λ i. first_chunks blob_width n (take (path_places_at + blob_width * count i - path_places_at) (drop path_places_at b)))
    ∙ ap (first_chunks blob_width n) (part_range b path_places_at (blob_width * n)) ∙ held_chunks b c.requires.1
