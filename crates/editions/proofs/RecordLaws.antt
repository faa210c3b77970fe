-- Records of one width, made one after the other: ports and paths as the tables have them.
use Prim.Native.Nat.{ℕ, ◌+◌, ◌*◌, ◌≤◌, ◌<◌}
use native.Mathlib.Nat.{add-zero}
use native.Mathlib.Numerals.{add-one}
use native.Mathlib.Omega.{arith}
use mathlib.Core.List.{List, ◌++◌}
use mathlib.Core.Path.{◌≡◌, sym, ap, ap₂, ◌∙◌}
use lib.ListN.{length, take, drop, take-append-drop}
use Rattle.octets.specs.Index.{list_of}
use Rattle.octets.specs.Part.{part, patch, joined}
use Rattle.octets.proofs.Part.{patch_join}
use Rattle.codes.proofs.Many.{many_end}
use Rattle.recording.specs.Shape.{sum_below}
use Rattle.recording.proofs.Sums.{sum_cong, sum_const, joined_sum, joined_found, joined_none, joined_more}

-- none yet, at any place
pub records_none : (now : ℕ → List ℕ) (t : List ℕ) (at : ℕ) → t ≡ patch t at (joined now (list_of (λ i. i) 0))
unfolding patch
records_none now t at =
    sym (take-append-drop at t)
    ∙ ap (λ (k : ℕ). take at t ++ drop k t) (sym (add-zero at))
    ∙ ap (λ (r : List ℕ). take at t ++ (r ++ drop (at + length r) t)) (sym (joined_none now (λ i. i)))

module _ (now : ℕ → List ℕ) (w count : ℕ) (wide : (i : ℕ) → i < count → length (now i) ≡ w) where
  pub records_length : (n : ℕ) → n ≤ count → length (joined now (list_of (λ i. i) n)) ≡ w * n
  records_length n m =
      joined_sum now (λ i. i) n
      ∙ sum_cong (λ i. length (now i)) (λ i. w) n (λ i l. wide i (omega arith))
      ∙ sum_const w n

  pub record_found : (i : ℕ) → i < count → part (joined now (list_of (λ j. j) count)) (w * i) w ≡ now i
  record_found i l =
      let place : sum_below (λ j. length (now j)) i ≡ w * i =
      sum_cong (λ j. length (now j)) (λ j. w) i (λ j m. wide j (omega arith)) ∙ sum_const w i in
      ap₂ (part (joined now (list_of (λ j. j) count))) (sym place) (sym (wide i l))
      ∙ joined_found now (λ j. j) count i l

  -- written one by one
  pub records_more : (t : List ℕ) (at i : ℕ) → i < count → at + w * count ≤ length t
      → patch (patch t at (joined now (list_of (λ j. j) i))) (at + w * i) (now i) ≡ patch t at (joined now (list_of (λ j. j) (i + 1)))
  records_more t at i l long =
      patch_join t at (at + w * i) (joined now (list_of (λ j. j) i)) (now i)
      (ap (λ (k : ℕ). at + k) (records_length i (omega arith)))
      (omega (arith, long, wide i l, many_end w count i l))
      ∙ ap (patch t at) (sym (joined_more now (λ j. j) i) ∙ ap (λ (n : ℕ). joined now (list_of (λ j. j) n)) (sym (add-one i)))
