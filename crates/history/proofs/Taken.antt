-- How many slots of a table are taken, and that there is room while fewer are than it has.
use Prim.Native.Nat.{ℕ, zero, suc, ◌+◌, ◌%◌, ◌≤◌, ◌<◌}
use native.Mathlib.Nat.{le_refl, mod-eq_of_lt, not-suc-le-zero, le_of_suc-le-suc}
use native.Mathlib.Decide.{dec_lt}
use native.Mathlib.Omega.{arith}
use mathlib.Core.Bool.{Bool, true, false, not, false≢true}
use mathlib.Core.List.{List, [], ◌∷◌, map}
use mathlib.Core.Path.{◌≡◌, refl, sym, ap, ◌∙◌}
use lib.Dec.{leb}
use lib.ListN.{length, get_or, set, replicate}
use lib.Seq.{get_or-set_other}
use borrow.Author.Tests.{le-leb, lt-leb, not-true}
use Rattle.octets.proofs.Index.{first_holds, first_before}
use Rattle.rules.specs.Relay.{Slot, empty, used, Ring, make_ring, holds, free, lowest_free}
use Rattle.rules.specs.Renumbering.{rename_slot}
use Rattle.rules.specs.Writes.{put_next}
use Rattle.rules.proofs.Slots.{used_not_empty}
use Rattle.history.proofs.Looking.{nothing_there}

unfoldable pub taken : {A : Type 0} → List (Slot A) → ℕ
taken [] = 0
taken (empty ∷ slots) = taken slots
taken (used x ∷ slots) = suc (taken slots)

pub taken_fresh : (A : Type 0) (n : ℕ) → taken {A = A} (replicate n empty) ≡ 0
unfolding taken
taken_fresh A zero = refl
taken_fresh A (suc n) = taken_fresh A n

module _ {A : Type 0} where
  -- a write takes at most one more
  pub taken_set : (slots : List (Slot A)) (i : ℕ) (s : Slot A) → taken (set slots i s) ≤ suc (taken slots)
  unfolding taken
  taken_set [] i s = omega arith
  taken_set (empty ∷ slots) zero empty = omega arith
  taken_set (empty ∷ slots) zero (used y) = omega arith
  taken_set (used x ∷ slots) zero empty = omega arith
  taken_set (used x ∷ slots) zero (used y) = omega arith
  taken_set (empty ∷ slots) (suc i) s = taken_set slots i s
  taken_set (used x ∷ slots) (suc i) s = omega (arith, taken_set slots i s)

  pub taken_more : (slots : List (Slot A)) (i : ℕ) (y : A) → i < length slots → get_or slots i empty ≡ empty → taken (set slots i (used y)) ≡ taken slots + 1
  unfolding taken
  taken_more [] i y l e = absurd (not-suc-le-zero l)
  taken_more (empty ∷ slots) zero y l e = omega arith
  taken_more (used x ∷ slots) zero y l e = absurd (used_not_empty (sym e))
  taken_more (empty ∷ slots) (suc i) y l e = taken_more slots i y (le_of_suc-le-suc l) e
  taken_more (used x ∷ slots) (suc i) y l e = omega (arith, taken_more slots i y (le_of_suc-le-suc l) e)

  pub taken_less : (slots : List (Slot A)) (i : ℕ) (x : A) → get_or slots i empty ≡ used x → taken (set slots i empty) + 1 ≡ taken slots
  unfolding taken
  taken_less [] i x e = absurd (used_not_empty e)
  taken_less (empty ∷ slots) zero x e = absurd (used_not_empty e)
  taken_less (used y ∷ slots) zero x e = omega arith
  taken_less (empty ∷ slots) (suc i) x e = taken_less slots i x e
  taken_less (used y ∷ slots) (suc i) x e = omega (arith, taken_less slots i x e)

  pub taken_renamed : (rename : A → A) (slots : List (Slot A)) → taken (map (rename_slot rename) slots) ≡ taken slots
  unfolding taken rename_slot
  taken_renamed rename [] = refl
  taken_renamed rename (empty ∷ slots) = taken_renamed rename slots
  taken_renamed rename (used x ∷ slots) = ap suc (taken_renamed rename slots)

  taken_le : (slots : List (Slot A)) → taken slots ≤ length slots
  unfolding taken
  taken_le [] = omega arith
  taken_le (empty ∷ slots) = omega (arith, taken_le slots)
  taken_le (used x ∷ slots) = omega (arith, taken_le slots)

  -- none is empty
  taken_all : (slots : List (Slot A)) → ((j : ℕ) → j < length slots → get_or slots j empty ≡ empty → ⊥) → length slots ≤ taken slots
  unfolding taken
  taken_all [] full = omega arith
  taken_all (empty ∷ slots) full = absurd (full 0 (omega arith) refl)
  taken_all (used x ∷ slots) full = omega (arith, taken_all slots (λ j l e. full (suc j) (omega arith) e))

  -- one is empty
  taken_below : (slots : List (Slot A)) (j : ℕ) → j < length slots → get_or slots j empty ≡ empty → taken slots < length slots
  unfolding taken
  taken_below [] j l e = absurd (not-suc-le-zero l)
  taken_below (empty ∷ slots) zero l e = omega (arith, taken_le slots)
  taken_below (used x ∷ slots) zero l e = absurd (used_not_empty (sym e))
  taken_below (empty ∷ slots) (suc j) l e = omega (arith, taken_below slots j (le_of_suc-le-suc l) e)
  taken_below (used x ∷ slots) (suc j) l e = omega (arith, taken_below slots j (le_of_suc-le-suc l) e)

  module _ (alive : A → Bool) (n : ℕ) (slots : List (Slot A)) where
    -- there is room
    pub room : length slots ≡ n → taken slots < n → lowest_free alive n slots < n
    unfolding lowest_free free holds
    room size few = go (dec_lt (lowest_free alive n slots) n)
      where
        go : Dec (lowest_free alive n slots < n) → lowest_free alive n slots < n
        go (yes l) = l
        go (no l) =
            let full : length slots ≤ taken slots =
            taken_all slots
            (λ j m e.
            false≢true
            (sym (first_before (λ i. not (holds alive (get_or slots i empty))) n j (omega arith))
            ∙ ap (λ (s : Slot A). not (holds alive s)) e))
            in
            omega arith

    -- .. where no record lives
    pub spare_dead : lowest_free alive n slots < n → holds alive (get_or slots (lowest_free alive n slots) empty) ≡ false
    unfolding lowest_free free
    spare_dead l = not-true _ (first_holds (λ i. free alive (get_or slots i empty)) n l)

  -- of records that never expire, a slot with room is empty
  module _ (n : ℕ) (slots : List (Slot A)) (size : length slots ≡ n) where
    pub spare_empty : lowest_free (λ x. true) n slots < n → get_or slots (lowest_free (λ x. true) n slots) empty ≡ empty
    unfolding lowest_free free holds
    spare_empty l =
        go (get_or slots (lowest_free (λ x. true) n slots) empty) (first_holds (λ i. not (holds (λ x. true) (get_or slots i empty))) n l)
      where
        go : (s : Slot A) → not (holds (λ x. true) s) ≡ true → s ≡ empty
        go empty h = refl
        go (used x) h = absurd (false≢true h)

    pub full_same : leb n (lowest_free (λ x. true) n slots) ≡ leb n (taken slots)
    full_same = go (dec_lt (taken slots) n) (dec_lt (lowest_free (λ x. true) n slots) n)
      where
        go : Dec (taken slots < n) → Dec (lowest_free (λ x. true) n slots < n) → leb n (lowest_free (λ x. true) n slots) ≡ leb n (taken slots)
        go (yes few) b = lt-leb n _ (room (λ x. true) n slots size few) ∙ sym (lt-leb n _ few)
        go (no many) (yes l) =
            let below : taken slots < length slots = taken_below slots (lowest_free (λ x. true) n slots) (omega arith) (spare_empty l) in
            let z : ⊥ = omega arith in
            absurd z
        go (no many) (no l) = le-leb n _ (omega arith) ∙ sym (le-leb n _ (omega arith))

-- ---- a ring that has not turned: at most `count` places were written, and the others are empty
pub record Unturned {A : Type 0} (ring : Ring A) (count : ℕ) : Type 0 where
  pub few : ring.next ≤ count
  pub rest : (j : ℕ) → ring.next ≤ j → get_or ring.slots j empty ≡ empty

pub unturned_fresh : {A : Type 0} (n : ℕ) → Unturned {A = A} (make_ring (replicate n empty) 0) 0
unturned_fresh n = record { few = le_refl 0; rest = λ j l. nothing_there n j }

module _ {A : Type 0} {ring : Ring A} {count : ℕ} (u : Unturned ring count) where
  pub turned_later : Unturned ring (suc count)
  turned_later = record { few = omega (arith, u.few); rest = u.rest }

  pub unturned_put : (n : ℕ) (s : Slot A) → suc count < n → Unturned (put_next n s ring) (suc count)
  unfolding put_next
  unturned_put n s l =
      let small : ring.next + 1 < n = omega (arith, u.few) in
      let e : (ring.next + 1) % n ≡ ring.next + 1 = mod-eq_of_lt small in
      record {
        few = omega (arith, u.few);
        rest = λ j m. get_or-set_other ring.slots ring.next j s empty (omega arith) ∙ u.rest j (omega arith);
      }
