-- The laws of a slot.
use Prim.Native.Nat.{ℕ, zero, suc, ◌+◌, ◌≤◌}
use native.Mathlib.Omega.{arith}
use mathlib.Core.Bool.{Bool, true, false}
use mathlib.Core.List.{List, [], ◌∷◌, ◌++◌}
use mathlib.Core.Path.{◌≡◌, refl, sym, ap, ap₂, ◌∙◌}
use lib.Dec.{lit<, eqb}
use lib.ListN.{length, get_or, replicate, length-replicate}
use borrow.Author.Tests.{eqb-true}
use Rattle.octets.specs.Bytes.{Bytes}
use Rattle.octets.specs.Index.{◌and◌, zeros}
use Rattle.octets.specs.Choice.{◌then◌otherwise◌}
use Rattle.octets.specs.Part.{part}
use Rattle.octets.proofs.Index.{and_left, and_right}
use Rattle.octets.proofs.Agree.{zeros_eq, zeros_replicate}
use Rattle.octets.proofs.Bytes.{cons_bytes, replicate_bytes}
use Rattle.octets.proofs.Part.{part_length, part_split, part_one, part_whole}
use Rattle.codes.specs.Code.{Code}
use Rattle.codes.specs.Codes.{Slot, empty, used, slot_bytes, GoodSlot, slot_code}
use Rattle.codes.proofs.Same.{Same, same_inside, same_byte, same_tail}
use Rattle.codes.proofs.Law.{Lawful}

first_zero : (n : ℕ) → get_or (replicate {A = ℕ} n 0) 0 0 ≡ 0
first_zero zero = refl
first_zero (suc n) = refl

module _ {A : Type 0} {c : Code A} (p : Lawful c) where
  slot_wide : (s : Slot A) → length (slot_bytes (1 + c.width) c.write s) ≡ 1 + c.width
  unfolding slot_bytes
  slot_wide empty = length-replicate (1 + c.width) 0
  slot_wide (used x) = omega (arith, p.wide x)

  behind : (x : A) → Same c.width (1 ∷ c.write x) 1 (c.write x) 0
  behind x = same_tail (1 ∷ []) (c.write x) 1 c.width refl (p.wide x)

  slot_back : (s : Slot A) → GoodSlot c.Good s → (slot_code c).read (slot_bytes (1 + c.width) c.write s) 0 ≡ s
  unfolding slot_bytes ◌then◌otherwise◌
  slot_back empty g = rw first_zero
  slot_back (used x) g = ap used (p.sees _ _ _ _ (behind x) ∙ p.back x g)

  slot_passes : (s : Slot A) → GoodSlot c.Good s → (slot_code c).fine (slot_bytes (1 + c.width) c.write s) 0 ≡ true
  unfolding slot_bytes ◌then◌otherwise◌ ◌and◌
  slot_passes empty g =
      rw first_zero
      (ap (zeros (1 + c.width)) (part_whole (replicate (1 + c.width) 0) (1 + c.width) (length-replicate (1 + c.width) 0)) ∙ zeros_replicate (1 + c.width))
  slot_passes (used x) g = p.tests _ _ _ _ (behind x) ∙ p.passes x g

  slot_bytes_lem : (s : Slot A) → GoodSlot c.Good s → Bytes (slot_bytes (1 + c.width) c.write s)
  unfolding slot_bytes
  slot_bytes_lem empty g = replicate_bytes (1 + c.width) 0 (lit< tt)
  slot_bytes_lem (used x) g = cons_bytes 1 (c.write x) (lit< tt) (p.bytes x g)

  module _ (t : List ℕ) (a : ℕ) (b : Bytes t) (l : a + (1 + c.width) ≤ length t) where
    used_again : get_or t a 0 ≡ 1 → c.fine t (a + 1) ≡ true → 1 ∷ c.write (c.read t (a + 1)) ≡ part t a (1 + c.width)
    used_again e f =
        ap₂ (λ (x y : List ℕ). x ++ y) (ap (λ (k : ℕ). k ∷ []) (sym e) ∙ sym (part_one t a (omega arith))) (p.again t (a + 1) b (omega arith) f)
        ∙ sym (part_split t a 1 c.width)

    slot_again : (slot_code c).fine t a ≡ true → slot_bytes (1 + c.width) c.write ((slot_code c).read t a) ≡ part t a (1 + c.width)
    unfolding slot_bytes ◌then◌otherwise◌
    slot_again f = go (eqb (get_or t a 0) 0) refl
      where
        go : (m : Bool) → eqb (get_or t a 0) 0 ≡ m → slot_bytes (1 + c.width) c.write ((slot_code c).read t a) ≡ part t a (1 + c.width)
        go true q = rw q (sym (zeros_eq (1 + c.width) (part t a (1 + c.width)) (part_length t a (1 + c.width) l) (rw q at f)))
        go false q =
            let h : (eqb (get_or t a 0) 1 and c.fine t (a + 1)) ≡ true = rw q at f in
            rw q (used_again (eqb-true (get_or t a 0) 1 (and_left _ _ h)) (and_right _ _ h))

    slot_keeps : (slot_code c).fine t a ≡ true → GoodSlot c.Good ((slot_code c).read t a)
    unfolding ◌then◌otherwise◌
    slot_keeps f = go (eqb (get_or t a 0) 0) refl
      where
        go : (m : Bool) → eqb (get_or t a 0) 0 ≡ m → GoodSlot c.Good ((slot_code c).read t a)
        go true q = rw q tt
        go false q =
            let h : (eqb (get_or t a 0) 1 and c.fine t (a + 1)) ≡ true = rw q at f in
            rw q (p.keeps t (a + 1) b (omega arith) (and_right _ _ h))

  module _ (t : List ℕ) (a : ℕ) (u : List ℕ) (b : ℕ) (e : Same (1 + c.width) t a u b) where
    same_mark : get_or t a 0 ≡ get_or u b 0
    same_mark = same_byte (1 + c.width) t a u b e (omega arith)

    same_rest : Same c.width t (a + 1) u (b + 1)
    same_rest = same_inside (1 + c.width) t a u b e 1 c.width (omega arith)

    slot_sees : (slot_code c).read t a ≡ (slot_code c).read u b
    slot_sees = λ i. eqb (same_mark i) 0 then empty otherwise used (p.sees t (a + 1) u (b + 1) same_rest i)

    slot_tests : (slot_code c).fine t a ≡ (slot_code c).fine u b
    slot_tests = λ i.
        eqb (same_mark i) 0 then zeros (1 + c.width) (e i) otherwise
        eqb (same_mark i) 1 and p.tests t (a + 1) u (b + 1) same_rest i

  pub slot_lawful : Lawful (slot_code c)
  slot_lawful =
      record {
        wide = slot_wide;
        sees = slot_sees;
        tests = slot_tests;
        back = slot_back;
        passes = slot_passes;
        bytes = slot_bytes_lem;
        again = slot_again;
        keeps = slot_keeps;
      }
