use Prim.Native.Nat.{ℕ, ◌+◌, ◌-◌}
use mathlib.Core.Path.{refl, ap, ◌∙◌}
use mathlib.Core.List.{List}
use lib.ListN.{length}
use borrow.Rule.Slice.PartMut.{put_mid}
use Rattle.octets.proofs.Part.{patch_range}
use Rattle.octets.proofs.copy_at.Goals as goal

pub returns : goal.returns
returns c =
    let a = c.args in
    ap (λ (r : List ℕ). put_mid a.at (a.at + length a.src.now - a.at) a.t.now r) c.copy.ensures
    ∙ patch_range a.t.now a.at (length a.src.now) a.src.now refl
