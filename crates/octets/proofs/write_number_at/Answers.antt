use Prim.Native.Nat.{ℕ, ◌+◌, ◌-◌}
use mathlib.Core.Path.{ap, ◌∙◌}
use mathlib.Core.List.{List}
use borrow.Rule.Slice.PartMut.{put_mid}
use Rattle.octets.specs.BigEndian.{big_endian}
use Rattle.octets.proofs.Part.{patch_range, range_length}
use Rattle.octets.proofs.BigEndian.{big_endian_length}
use Rattle.octets.proofs.write_number_at.Goals as goal

pub returns : goal.returns
returns c =
    let a = c.args in
    ap (λ (r : List ℕ). put_mid a.at (a.at + a.n - a.at) a.t.now r)
    (c.write_number.ensures ∙ ap (λ (k : ℕ). big_endian k a.x) (range_length a.t.now a.at a.n c.requires))
    ∙ patch_range a.t.now a.at a.n (big_endian a.n a.x) (big_endian_length a.n a.x)
