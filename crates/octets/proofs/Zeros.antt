-- Runs of zeros: their parts, and words of them.
use Prim.Native.Nat.{ℕ, zero, suc, ◌+◌, ◌-◌, ◌*◌, ◌≤◌}
use native.Mathlib.Omega.{arith}
use mathlib.Core.Bool.{Bool, true, false, false≢true}
use mathlib.Core.List.{List, [], ◌∷◌}
use mathlib.Core.Path.{◌≡◌, refl, sym, ap, ap₂, ◌∙◌}
use lib.Dec.{eqb}
use lib.Bits.{bit_or}
use lib.ListN.{length, get_or}
use borrow.Author.Tests.{eq-eqb, ne_eqb, eqb-true, eqb-false}
use Rattle.octets.specs.Part.{part}
use Rattle.octets.specs.Index.{◌and◌, all_below, zeros}
use Rattle.octets.specs.BigEndian.{word}
use Rattle.octets.proofs.Part.{part_at, part_length, part_part}
use Rattle.octets.proofs.Agree.{or_eqb}
use Rattle.octets.proofs.Index.{and_assoc, and_true, all_intro, all_at, all_plus, all_cong}

-- ---- parts
-- a part of a run of zeros is zeros
pub zeros_part : (t : List ℕ) (n a m : ℕ) → zeros n t ≡ true → a + m ≤ n → zeros m (part t a m) ≡ true
unfolding zeros
zeros_part t n a m h l =
    all_intro (λ k. eqb (get_or (part t a m) k 0) 0) m
    (λ i k. eq-eqb (get_or (part t a m) i 0) 0
    (part_at t a m i k ∙ eqb-true (get_or t (a + i) 0) 0 (all_at (λ j. eqb (get_or t j 0) 0) n (a + i) h (omega arith))))

-- a run in two parts, side by side
pub zeros_plus : (t : List ℕ) (m n : ℕ) → zeros (m + n) t ≡ (zeros m t and zeros n (part t m n))
unfolding zeros
zeros_plus t m n =
    all_plus (λ k. eqb (get_or t k 0) 0) m n
    ∙ ap (λ (b : Bool). zeros m t and b)
    (all_cong (λ j. eqb (get_or t (m + j) 0) 0) (λ k. eqb (get_or (part t m n) k 0) 0) n (λ i l. ap (λ (x : ℕ). eqb x 0) (sym (part_at t m n i l))))

-- and in two of which the second may start within the first
module _ (t : List ℕ) (i m n : ℕ) (starts : m ≤ i) (ends : i ≤ m + n) where
  behind : ℕ
  behind = m + n - i

  split : zeros (m + n) t ≡ (zeros i t and zeros behind (part t i behind))
  unfolding behind
  split = ap (λ (k : ℕ). zeros k t) (omega arith) ∙ zeros_plus t i behind

  second : zeros n (part t m n) ≡ true → zeros behind (part t i behind) ≡ true
  unfolding behind
  second h =
      ap (zeros behind) (ap (λ (k : ℕ). part t k behind) (omega arith) ∙ sym (part_part t m n (i - m) behind (omega arith)))
      ∙ zeros_part (part t m n) n (i - m) behind h (omega arith)

  pub zeros_over : zeros (m + n) t ≡ (zeros n (part t m n) and zeros i t)
  unfolding ◌and◌
  zeros_over = go (zeros n (part t m n)) refl (zeros (m + n) t) refl
    where
      go : (b : Bool) → zeros n (part t m n) ≡ b → (r : Bool) → zeros (m + n) t ≡ r → zeros (m + n) t ≡ (zeros n (part t m n) and zeros i t)
      go true h r q = rw h (split ∙ ap (λ (b : Bool). zeros i t and b) (second h) ∙ and_true (zeros i t))
      go false h true q = absurd (false≢true (sym h ∙ zeros_part t (m + n) m n q (omega arith)))
      go false h false q = rw h q

-- ---- a run within another
module _ (t : List ℕ) (m n : ℕ) (within : m ≤ n) where
  pub zeros_fewer : zeros n t ≡ true → zeros m t ≡ true
  unfolding zeros
  zeros_fewer h = all_intro (λ k. eqb (get_or t k 0) 0) m (λ i l. all_at (λ j. eqb (get_or t j 0) 0) n i h (omega arith))

  -- adds nothing to it
  pub zeros_within : (zeros n t and zeros m t) ≡ zeros n t
  unfolding ◌and◌
  zeros_within = go (zeros n t) refl
    where
      go : (b : Bool) → zeros n t ≡ b → (zeros n t and zeros m t) ≡ zeros n t
      go true h = rw h (zeros_fewer h)
      go false h = rw h refl

-- ---- words
zeros_cons : (n x : ℕ) (xs : List ℕ) → zeros (suc n) (x ∷ xs) ≡ (eqb x 0 and zeros n xs)
unfolding zeros all_below ◌and◌
zeros_cons zero x xs = sym (and_true (eqb x 0))
zeros_cons (suc n) x xs =
    ap (λ (b : Bool). b and eqb (get_or xs n 0) 0) (zeros_cons n x xs) ∙ and_assoc (eqb x 0) (zeros n xs) (eqb (get_or xs n 0) 0)

digits_eqb : (q r : ℕ) → eqb (q * 256 + r) 0 ≡ (eqb r 0 and eqb q 0)
unfolding ◌and◌
digits_eqb q r = go (eqb r 0) refl (eqb q 0) refl
  where
    go : (a : Bool) → eqb r 0 ≡ a → (b : Bool) → eqb q 0 ≡ b → eqb (q * 256 + r) 0 ≡ (eqb r 0 and eqb q 0)
    go true er true eq = rw (er, eq) (eq-eqb (q * 256 + r) 0 (omega (arith, eqb-true r 0 er, eqb-true q 0 eq)))
    go true er false eq = rw (er, eq) (ne_eqb (q * 256 + r) 0 (λ (e : q * 256 + r ≡ 0). eqb-false q 0 eq (omega arith)))
    go false er b eq = rw er (ne_eqb (q * 256 + r) 0 (λ (e : q * 256 + r ≡ 0). eqb-false r 0 er (omega arith)))

-- a word is 0 where its bytes are
word_zeros : (xs : List ℕ) → eqb (word xs) 0 ≡ zeros (length xs) xs
unfolding word zeros all_below
word_zeros [] = refl
word_zeros (x ∷ xs) =
    digits_eqb (word xs) x ∙ ap (λ (b : Bool). eqb x 0 and b) (word_zeros xs) ∙ sym (zeros_cons (length xs) x xs)

module _ (t : List ℕ) (a n : ℕ) (fits : a + n ≤ length t) {w : ℕ} (read : w ≡ word (part t a n)) where
  pub word_part : eqb w 0 ≡ zeros n (part t a n)
  word_part = ap (λ (x : ℕ). eqb x 0) read ∙ word_zeros (part t a n) ∙ ap (λ (k : ℕ). zeros k (part t a n)) (part_length t a n fits)

  -- the OR of what was read so far, b being its test, with the word behind the first a bytes
  pub word_more : (x : ℕ) (b : Bool) → eqb x 0 ≡ (b and zeros a t) → eqb (bit_or x w) 0 ≡ (b and zeros (a + n) t)
  word_more x b h =
      or_eqb x w ∙ ap₂ (λ (p q : Bool). p and q) h word_part ∙ and_assoc b (zeros a t) (zeros n (part t a n))
      ∙ ap (λ (q : Bool). b and q) (sym (zeros_plus t a n))
