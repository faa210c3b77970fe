-- Parts of plain lists: sixteen bytes, one byte and the rest, as both packet types end.
use Prim.Native.Nat.{ℕ, ◌+◌, ◌≤◌}
use native.Mathlib.Omega.{arith}
use mathlib.Core.List.{List, [], ◌∷◌, ◌++◌, append_assoc}
use mathlib.Core.Path.{◌≡◌, sym, ap, ap₂, ◌∙◌}
use lib.ListN.{length, get_or, take, drop, length-take, length-drop, length-append}
use lib.Seq.{take-add, take_all, take-suc, drop-drop, take_at, drop_at, get_or_at, get_or-drop}
use Rattle.octets.specs.Part.{part, patch}
use Rattle.octets.proofs.Part.{part_mid, patch_join}
use Rattle.packet.specs.Places.{address_width, end_width}

-- ---- a list from place a on: sixteen bytes, one byte, and the first k of what is left
in_three : (l : List ℕ) (k : ℕ) → end_width ≤ length l → take address_width l ++ (get_or l address_width 0 ∷ take k (drop end_width l)) ≡ take (end_width + k) l
in_three l k h =
    sym (append_assoc (take address_width l) (get_or l address_width 0 ∷ []) (take k (drop end_width l)))
    ∙ ap (λ (r : List ℕ). r ++ take k (drop end_width l)) (sym (take-suc l address_width 0 h))
    ∙ sym (take-add end_width k l)

module _ (p : List ℕ) (a : ℕ) (long : a + end_width ≤ length p) where
  pub behind_cut : (k : ℕ) → part p a address_width ++ (get_or p (a + address_width) 0 ∷ take k (drop (a + end_width) p)) ≡ take (end_width + k) (drop a p)
  unfolding part
  behind_cut k =
      ap₂ (λ (x : ℕ) (r : List ℕ). take address_width (drop a p) ++ (x ∷ take k r)) (sym (get_or-drop a p address_width 0)) (sym (drop-drop end_width a p))
      ∙ in_three (drop a p) k (simp length-drop (omega arith))

  pub behind : part p a address_width ++ (get_or p (a + address_width) 0 ∷ drop (a + end_width) p) ≡ drop a p
  behind =
      ap (λ (r : List ℕ). part p a address_width ++ (get_or p (a + address_width) 0 ∷ r))
      (sym (take_all (length p) (drop (a + end_width) p) (simp length-drop (omega arith))))
      ∙ behind_cut (length p)
      ∙ take_all (end_width + length p) (drop a p) (simp length-drop (omega arith))

-- the same the other way: where such a list stands behind a bytes, its three pieces are found there
module _ (x y : List ℕ) (v : ℕ) (z : List ℕ) (a : ℕ) (ex : length x ≡ a) (ey : length y ≡ address_width) where
  joined_length : length (x ++ y) ≡ a + address_width
  joined_length = length-append x y ∙ ap₂ (λ (m n : ℕ). m + n) ex ey

  pub found_part : part (x ++ (y ++ (v ∷ z))) a address_width ≡ y
  found_part = part_mid x y (v ∷ z) a address_width ex ey

  pub found_byte : get_or (x ++ (y ++ (v ∷ z))) (a + address_width) 0 ≡ v
  found_byte = ap (λ (l : List ℕ). get_or l (a + address_width) 0) (sym (append_assoc x y (v ∷ z))) ∙ get_or_at (x ++ y) v z 0 (a + address_width) joined_length

  pub found_rest : drop (a + end_width) (x ++ (y ++ (v ∷ z))) ≡ z
  found_rest =
      let q : a + end_width ≡ a + address_width + 1 = omega arith in
      ap₂ drop q (sym (append_assoc x y (v ∷ z)))
      ∙ sym (drop-drop 1 (a + address_width) (x ++ y ++ (v ∷ z)))
      ∙ ap (drop 1) (drop_at (x ++ y) (v ∷ z) (a + address_width) joined_length)

-- ---- a part is no longer than it is asked to be
pub part_most : (s : List ℕ) (at n k : ℕ) → n ≤ k → length (part s at n) ≤ k
unfolding part
part_most s at n k h = simp length-take (omega arith)

-- ---- what is written at the start of a buffer
pub patched_start : (t bs : List ℕ) (n : ℕ) → length bs ≡ n → take n (patch t 0 bs) ≡ bs
unfolding patch
patched_start t bs n e = take_at bs (drop (0 + length bs) t) n e

pub two_patches : (t x y : List ℕ) (n : ℕ) → length x ≡ n → n + length y ≤ length t → take (n + length y) (patch (patch t 0 x) n y) ≡ x ++ y
two_patches t x y n e h =
    ap (take (n + length y)) (patch_join t 0 n x y (omega arith) h)
    ∙ patched_start t (x ++ y) (n + length y) (length-append x y ∙ omega arith)
