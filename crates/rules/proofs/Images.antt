-- The laws of a renumbering's map: as the identity outside the sixteen ports, it is one-to-one on all numbers.
use Prim.Native.Nat.{ℕ, ◌≤◌, ◌<◌}
use native.Mathlib.Decide.{dec_lt}
use native.Mathlib.Omega.{arith}
use mathlib.Core.Bool.{Bool, true, false, not}
use mathlib.Core.List.{List}
use mathlib.Core.Path.{◌≡◌, refl, sym, ap, ◌∙◌}
use lib.Dec.{eqb, ltb, leb}
use lib.ListN.{length, get_or}
use borrow.Author.Tests.{lt-ltb, le-ltb, ltb-true, lt-leb, eq-eqb, ne_eqb, eqb-true, eqb-false, not-true}
use Rattle.octets.specs.Index.{◌and◌}
use Rattle.octets.specs.Choice.{◌then◌otherwise◌}
use Rattle.octets.proofs.Index.{and_left, and_right, and_both, all_at, all_intro, first_only, first_holds, first_le, first_before, first_absent, first_cong}
use Rattle.octets.proofs.ListOf.{list_of_length, list_of_at}
use Rattle.rules.specs.Renumbering.{image, differs_before, one_to_one, preimage, composed}
use Rattle.numbers.specs.Numbers.{port_count}

-- two comparisons that hold together are equal
pub eqb_both : (a b c d : ℕ) → (a ≡ b → c ≡ d) → (c ≡ d → a ≡ b) → eqb a b ≡ eqb c d
eqb_both a b c d to from = go (eqb c d) refl
  where
    go : (t : Bool) → eqb c d ≡ t → eqb a b ≡ eqb c d
    go true h = eq-eqb a b (from (eqb-true c d h)) ∙ sym h
    go false h = ne_eqb a b (λ e. eqb-false c d h (to e)) ∙ sym h

pub image_port : (m : List ℕ) (n : ℕ) → n < port_count → image m n ≡ get_or m n 0
unfolding image ◌then◌otherwise◌
image_port m n l = rw (lt-ltb n port_count l)

pub image_other : (m : List ℕ) (n : ℕ) → port_count ≤ n → image m n ≡ n
unfolding image ◌then◌otherwise◌
image_other m n l = rw (le-ltb n port_count l)

-- where a number comes from: one that is no port stays
unfoldable pub source : List ℕ → ℕ → ℕ
source m n = ltb n port_count then preimage m n otherwise n

pub source_port : (m : List ℕ) (n : ℕ) → n < port_count → source m n ≡ preimage m n
unfolding source ◌then◌otherwise◌
source_port m n l = rw (lt-ltb n port_count l)

pub source_other : (m : List ℕ) (n : ℕ) → port_count ≤ n → source m n ≡ n
unfolding source ◌then◌otherwise◌
source_other m n l = rw (le-ltb n port_count l)

-- a preimage that is a port has the image
pub preimage_holds : (m : List ℕ) (n : ℕ) → preimage m n < port_count → get_or m (preimage m n) 0 ≡ n
unfolding preimage
preimage_holds m n l = eqb-true (get_or m (preimage m n) 0) n (first_holds (λ i. eqb (get_or m i 0) n) port_count l)

pub preimage_le : (m : List ℕ) (n : ℕ) → preimage m n ≤ port_count
unfolding preimage
preimage_le m n = first_le (λ i. eqb (get_or m i 0) n) port_count

module _ (m : List ℕ) (ok : one_to_one m ≡ true) where
  each_port : (i : ℕ) → i < port_count → (ltb (get_or m i 0) port_count and differs_before m i) ≡ true
  unfolding one_to_one
  each_port i l = all_at (λ i. ltb (get_or m i 0) port_count and differs_before m i) port_count i (and_right _ _ ok) l

  pub image_below : (i : ℕ) → i < port_count → get_or m i 0 < port_count
  image_below i l = ltb-true (get_or m i 0) port_count (and_left _ _ (each_port i l))

  apart : (i j : ℕ) → i < port_count → j < i → get_or m j 0 ≡ get_or m i 0 → ⊥
  unfolding differs_before
  apart i j l b e =
      eqb-false (get_or m j 0) (get_or m i 0)
      (not-true _ (all_at (λ j. not (eqb (get_or m j 0) (get_or m i 0))) i j (and_right _ _ (each_port i l)) b))
      e

  pub port_injective : (i j : ℕ) → i < port_count → j < port_count → get_or m i 0 ≡ get_or m j 0 → i ≡ j
  port_injective i j l k e = go (dec_lt i j) (dec_lt j i)
    where
      go : Dec (i < j) → Dec (j < i) → i ≡ j
      go (yes a) b = absurd (apart j i k a e)
      go (no a) (yes b) = absurd (apart i j l b (sym e))
      go (no a) (no b) = omega arith

  -- a port comes from where it goes
  pub preimage_image : (i : ℕ) → i < port_count → preimage m (get_or m i 0) ≡ i
  unfolding preimage
  preimage_image i l =
      first_only (λ k. eqb (get_or m k 0) (get_or m i 0)) port_count i l (eq-eqb (get_or m i 0) (get_or m i 0) refl)
      (λ j k e. port_injective j i k l (eqb-true (get_or m j 0) (get_or m i 0) e))

  pub source_image : (n : ℕ) → source m (image m n) ≡ n
  source_image n = go (dec_lt n port_count)
    where
      go : Dec (n < port_count) → source m (image m n) ≡ n
      go (yes l) = ap (source m) (image_port m n l) ∙ source_port m (get_or m n 0) (image_below n l) ∙ preimage_image n l
      go (no l) = ap (source m) (image_other m n (omega arith)) ∙ source_other m n (omega arith)

  pub image_injective : (i j : ℕ) → image m i ≡ image m j → i ≡ j
  image_injective i j e = sym (source_image i) ∙ ap (source m) e ∙ source_image j

  pub image_eqb : (i j : ℕ) → eqb (image m i) (image m j) ≡ eqb i j
  image_eqb i j = eqb_both (image m i) (image m j) i j (image_injective i j) (ap (image m))

  -- what is a port stays one, and what is none stays none
  pub image_leb : (n : ℕ) → leb port_count (image m n) ≡ leb port_count n
  image_leb n = go (dec_lt n port_count)
    where
      go : Dec (n < port_count) → leb port_count (image m n) ≡ leb port_count n
      go (yes l) =
          ap (leb port_count) (image_port m n l)
          ∙ lt-leb port_count (get_or m n 0) (image_below n l)
          ∙ sym (lt-leb port_count n l)
      go (no l) = ap (leb port_count) (image_other m n (omega arith))

-- ---- the composed map
module _ (one two : List ℕ) (ok-one : one_to_one one ≡ true) (ok-two : one_to_one two ≡ true) where
  pub composed_at : (i : ℕ) → i < port_count → get_or (composed one two) i 0 ≡ get_or two (get_or one i 0) 0
  unfolding composed
  composed_at i l =
      list_of_at (λ k. image two (get_or one k 0)) port_count i 0 l
      ∙ image_port two (get_or one i 0) (image_below one ok-one i l)

  pub image_composed : (n : ℕ) → image two (image one n) ≡ image (composed one two) n
  image_composed n = go (dec_lt n port_count)
    where
      go : Dec (n < port_count) → image two (image one n) ≡ image (composed one two) n
      go (yes l) =
          ap (image two) (image_port one n l)
          ∙ image_port two (get_or one n 0) (image_below one ok-one n l)
          ∙ sym (image_port (composed one two) n l ∙ composed_at n l)
      go (no l) =
          ap (image two) (image_other one n (omega arith))
          ∙ image_other two n (omega arith)
          ∙ sym (image_other (composed one two) n (omega arith))

  unlike : (i j : ℕ) → i < port_count → j < i → get_or (composed one two) j 0 ≡ get_or (composed one two) i 0 → ⊥
  unlike i j l b e =
      let k : j < port_count = omega arith in
      apart one ok-one i j l b
      (port_injective two ok-two (get_or one j 0) (get_or one i 0) (image_below one ok-one j k) (image_below one ok-one i l)
      (sym (composed_at j k) ∙ e ∙ composed_at i l))

  pub composed_one_to_one : one_to_one (composed one two) ≡ true
  unfolding one_to_one differs_before composed
  composed_one_to_one =
      and_both (eq-eqb (length (composed one two)) port_count (list_of_length (λ i. image two (get_or one i 0)) port_count))
      (all_intro (λ i. ltb (get_or (composed one two) i 0) port_count and differs_before (composed one two) i) port_count
      (λ i l.
      and_both
      (ap (λ (x : ℕ). ltb x port_count) (composed_at i l)
      ∙ lt-ltb (get_or two (get_or one i 0) 0) port_count (image_below two ok-two (get_or one i 0) (image_below one ok-one i l)))
      (all_intro (λ j. not (eqb (get_or (composed one two) j 0) (get_or (composed one two) i 0))) i
      (λ j b. ap not (ne_eqb (get_or (composed one two) j 0) (get_or (composed one two) i 0) (λ e. unlike i j l b e))))))

  -- where n comes from k by the second map, what comes from k by the first is what comes from n by the composed one
  pub preimage_composed : (n : ℕ) → preimage two n < port_count → preimage one (preimage two n) ≡ preimage (composed one two) n
  unfolding preimage
  preimage_composed n l =
      let k : ℕ = preimage two n in
      let e : get_or two k 0 ≡ n = preimage_holds two n l in
      first_cong _ _ port_count
      (λ i b.
      eqb_both (get_or one i 0) k (get_or (composed one two) i 0) n
      (λ q. composed_at i b ∙ ap (λ (x : ℕ). get_or two x 0) q ∙ e)
      (λ q. port_injective two ok-two (get_or one i 0) k (image_below one ok-one i b) l (sym (composed_at i b) ∙ q ∙ sym e)))

  -- what comes from nowhere by the second map comes from nowhere
  pub preimage_composed_none : (n : ℕ) → port_count ≤ preimage two n → preimage (composed one two) n ≡ port_count
  unfolding preimage
  preimage_composed_none n l =
      first_absent (λ i. eqb (get_or (composed one two) i 0) n) port_count
      (λ i b.
      ap (λ (x : ℕ). eqb x n) (composed_at i b)
      ∙ first_before (λ j. eqb (get_or two j 0) n) port_count (get_or one i 0) (let h : get_or one i 0 < port_count = image_below one ok-one i b in omega arith))
