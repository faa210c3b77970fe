use Prim.Native.Nat.{ℕ, ◌+◌, ◌-◌, ◌*◌}
use mathlib.Core.Path.{ap, ◌∙◌}
use lib.ListN.{replicate, length-replicate}
use borrow.Rule.Slice.PartMut.{put_mid}
use Rattle.octets.proofs.Part.{patch_range, range_length}
use Rattle.tables.specs.Places.{local_width, locals_at}
use Rattle.tables.specs.Records.{slot_bytes}
use native.Mathlib.Omega.{arith}
use Rattle.settings.proofs.writes.empty_place.Goals as goal

pub returns : goal.returns
unfolding slot_bytes
returns c =
    let a = c.args in
    let t = a.tables.now in
    let at : ℕ = locals_at + local_width * a.place in
    let wide = range_length t at local_width (omega (arith, c.requires.0, c.requires.1)) in
    ap (put_mid at (at + local_width - at) t) (c.fill.ensures.after (λ y e. e) ∙ ap (λ (n : ℕ). replicate n 0) wide)
    ∙ patch_range t at local_width (replicate local_width 0) (length-replicate {A = ℕ} local_width 0)
