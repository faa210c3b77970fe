-- A table or a ring of which what is known agrees, after each way of writing it. It has at most n slots taken or places written, and one more after it.
use Prim.Native.Nat.{ℕ, suc, ◌≤◌, ◌<◌}
use native.Mathlib.Decide.{dec_lt, ℕ_discrete}
use native.Mathlib.Nat.{le_refl}
use native.Mathlib.Omega.{arith}
use mathlib.Core.Bool.{Bool, true, false}
use mathlib.Core.List.{List, map}
use mathlib.Core.Path.{◌≡◌, refl, sym, ap, subst, ◌∙◌}
use lib.ListN.{length, get_or, set, length-set, get_or-eq_default}
use lib.Seq.{get_or-set_same, get_or-set_other}
use Rattle.octets.specs.Choice.{◌then◌otherwise◌, same}
use Rattle.octets.proofs.Choice.{same_refl, then_true}
use Rattle.rules.specs.Relay.{Slot, empty, used, Ring, with_slots, holds, lowest, lowest_free}
use Rattle.rules.specs.Renumbering.{rename_slot}
use Rattle.rules.specs.Writes.{put_next, emptied_if, emptied_where}
use Rattle.rules.proofs.Slots.{Single, used_not_empty, used_same}
use Rattle.rules.proofs.SlotsRenamed.{slot_renamed}
use Rattle.history.specs.Known.{only_if, now_under}
use Rattle.history.proofs.Looking.{Kind, of_key, look, Tells, tells_later, tells_same, tells_over, tells_changed, tells_gone, tells_new, tells_renamed, tells_emptied, emptied_slot}
use Rattle.history.proofs.Taken.{taken, taken_set, taken_renamed, room, spare_dead, Unturned, turned_later, unturned_put}

-- at most n slots are taken
pub record InTable {A : Type 0} (T : Kind A) (now n : ℕ) (slots : List (Slot A)) (known : List ℕ → Slot A) : Type 0 where
  pub tells : Tells T now slots known
  pub few : taken slots ≤ n

-- at most n places were written
pub record InRing {A : Type 0} (T : Kind A) (now n : ℕ) (ring : Ring A) (known : List ℕ → Slot A) : Type 0 where
  pub tells : Tells T now ring.slots known
  pub unturned : Unturned ring n

-- ---- later, and with one more call
module _ {A : Type 0} {T : Kind A} {now n : ℕ} where
  pub table_later : {later : ℕ} → now ≤ later → {slots : List (Slot A)} {known : List ℕ → Slot A} → InTable T now n slots known → InTable T later n slots known
  table_later l h = record { tells = tells_later l h.tells; few = h.few }

  pub ring_later : {later : ℕ} → now ≤ later → {ring : Ring A} {known : List ℕ → Slot A} → InRing T now n ring known → InRing T later n ring known
  ring_later l h = record { tells = tells_later l h.tells; unturned = h.unturned }

  pub table_more : {slots : List (Slot A)} {known : List ℕ → Slot A} → InTable T now n slots known → InTable T now (suc n) slots known
  table_more h = record { tells = h.tells; few = omega (arith, h.few) }

  pub ring_more : {ring : Ring A} {known : List ℕ → Slot A} → InRing T now n ring known → InRing T now (suc n) ring known
  ring_more h = record { tells = h.tells; unturned = turned_later h.unturned }

-- ---- known under a key
module _ {A : Type 0} (k : List ℕ) where
  under_own : (x : A) (f : List ℕ → A) → now_under k x f k ≡ x
  unfolding now_under
  under_own x f = then_true _ _ (same_refl k)

  under_twice : (x y : A) (f : List ℕ → A) (j : List ℕ) → now_under k x (now_under k y f) j ≡ now_under k x f j
  unfolding now_under ◌then◌otherwise◌
  under_twice x y f j = go (same k j)
    where
      go : (b : Bool) → (b then x otherwise (b then y otherwise f j)) ≡ (b then x otherwise f j)
      go true = refl
      go false = refl

still_empty : {A : Type 0} (slots : List (Slot A)) (i j : ℕ) → get_or slots j empty ≡ empty → get_or (set slots i empty) j empty ≡ empty
still_empty {A} slots i j e = go (ℕ_discrete j i) (dec_lt j (length slots))
  where
    go : Dec (j ≡ i) → Dec (j < length slots) → get_or (set slots i empty) j empty ≡ empty
    go (yes p) (yes l) = rw p (get_or-set_same slots i empty empty (subst (λ (j : ℕ). j < length slots) p l))
    go (yes p) (no l) = get_or-eq_default (set slots i empty) empty (rw length-set (omega arith))
    go (no p) b = get_or-set_other slots i j empty empty p ∙ e

-- ---- writes
module _ {A : Type 0} {T : Kind A} {now n : ℕ} where
  module _ {slots : List (Slot A)} {known : List ℕ → Slot A} (h : InTable T now n slots known) where
    more : (i : ℕ) (s : Slot A) → taken (set slots i s) ≤ suc n
    more i s = omega (arith, taken_set slots i s, h.few)

    -- a new record of k goes into the lowest slot empty or expired
    pub table_new : n < T.count → (k : List ℕ) → look T now slots k ≡ empty → (y : A) → T.key y ≡ k
        → InTable T now (suc n) (set slots (lowest_free (T.alive now) T.count slots) (used y)) (now_under k (used y) known)
    table_new under k none y q =
        let l : lowest_free (T.alive now) T.count slots < T.count = room (T.alive now) T.count slots h.tells.size (omega (arith, h.few)) in
        record { tells = tells_new h.tells _ l k none (spare_dead (T.alive now) T.count slots l) y q; few = more _ _ }

    -- the live record of k is written anew, or changed where it stands
    module _ (single : Single (T.alive now) T.key slots) (k : List ℕ) (x : A) (f : look T now slots k ≡ used x) where
      pub table_over : (y : A) → T.key y ≡ k → InTable T now (suc n) (set slots (lowest (of_key T now k) T.count slots) (used y)) (now_under k (used y) known)
      table_over y q = record { tells = tells_over h.tells single k x f (used y) (λ z e lives. ap T.key (sym (used_same e)) ∙ q); few = more _ _ }

      pub table_changed : (change : A → A) → ((y : A) → T.key (change y) ≡ T.key y)
          → InTable T now (suc n) (set slots (lowest (of_key T now k) T.count slots) (used (change x))) (now_under k (rename_slot change (known k)) known)
      table_changed change keyed = record { tells = tells_changed h.tells single k x f change keyed; few = more _ _ }

    pub table_renamed : (rename : A → A) → ((x : A) → T.key (rename x) ≡ T.key x) → ((clock : ℕ) (x : A) → T.alive clock (rename x) ≡ T.alive clock x)
        → InTable T now n (map (rename_slot rename) slots) (λ k. rename_slot rename (known k))
    table_renamed rename keyed lives =
        record { tells = tells_renamed rename keyed lives h.tells; few = omega (arith, taken_renamed rename slots, h.few) }

    -- where none of k lives, nothing is written
    pub table_gone : (k : List ℕ) → look T now slots k ≡ empty → (change : A → A) → ((clock : ℕ) (x : A) → T.alive clock (change x) ≡ T.alive clock x)
        → InTable T now (suc n) slots (now_under k (rename_slot change (known k)) known)
    table_gone k none change lives = record { tells = tells_gone h.tells k none change lives; few = omega (arith, h.few) }

  module _ {ring : Ring A} {known : List ℕ → Slot A} (h : InRing T now n ring known) where
    pub ring_renamed : (rename : A → A) → ((x : A) → T.key (rename x) ≡ T.key x) → ((clock : ℕ) (x : A) → T.alive clock (rename x) ≡ T.alive clock x)
        → InRing T now n (with_slots (map (rename_slot rename) ring.slots) ring) (λ k. rename_slot rename (known k))
    unfolding rename_slot
    ring_renamed rename keyed lives =
        record {
          tells = tells_renamed rename keyed lives h.tells;
          unturned =
              record {
                few = h.unturned.few;
                rest = λ j l. slot_renamed rename ring.slots j ∙ ap (rename_slot rename) (h.unturned.rest j l);
              };
        }

    -- a new record of k goes into the next place
    pub ring_new : suc n < T.count → (k : List ℕ) → look T now ring.slots k ≡ empty → (y : A) → T.key y ≡ k
        → InRing T now (suc n) (put_next T.count (used y) ring) (now_under k (used y) known)
    unfolding put_next holds
    ring_new under k none y q =
        record {
          tells =
              tells_new h.tells ring.next (omega (arith, h.unturned.few)) k none
              (ap (holds (T.alive now)) (h.unturned.rest ring.next (le_refl ring.next))) y q;
          unturned = unturned_put h.unturned T.count (used y) under;
        }

    -- the live records of k are emptied
    pub ring_emptied : (k : List ℕ) → InRing T now n (emptied_where (of_key T now k) ring) (now_under k empty known)
    unfolding emptied_where emptied_if holds ◌then◌otherwise◌
    ring_emptied k =
        record {
          tells = tells_emptied h.tells k;
          unturned =
              record {
                few = h.unturned.few;
                rest = λ j l. emptied_slot (of_key T now k) ring.slots j ∙ ap (emptied_if (of_key T now k)) (h.unturned.rest j l);
              };
        }

    -- the live record of k is emptied
    pub ring_over : (single : Single (T.alive now) T.key ring.slots) (k : List ℕ) (x : A) → look T now ring.slots k ≡ used x
        → InRing T now n (with_slots (set ring.slots (lowest (of_key T now k) T.count ring.slots) empty) ring) (now_under k empty known)
    ring_over single k x f =
        record {
          tells = tells_over h.tells single k x f empty (λ y e. absurd (used_not_empty e));
          unturned = record { few = h.unturned.few; rest = λ j l. still_empty ring.slots _ j (h.unturned.rest j l) };
        }

  -- .. and a new one takes their place
  pub ring_anew : {ring : Ring A} {known : List ℕ → Slot A} → InRing T now n ring known → suc n < T.count → (k : List ℕ) (y : A) → T.key y ≡ k
      → InRing T now (suc n) (put_next T.count (used y) (emptied_where (of_key T now k) ring)) (now_under k (used y) known)
  unfolding only_if
  ring_anew {ring} {known} h under k y q =
      let left = ring_emptied h k in
      let none : look T now (emptied_where (of_key T now k) ring).slots k ≡ empty =
      left.tells.told now (le_refl now) k ∙ ap (only_if (T.alive now)) (under_own k empty known) in
      let new = ring_new left under k none y q in
      record { tells = tells_same (under_twice k (used y) empty known) new.tells; unturned = new.unturned }
