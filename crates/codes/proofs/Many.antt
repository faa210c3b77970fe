-- The laws of n records in a row, for any n.
use Prim.Native.Nat.{ℕ, zero, suc, ◌+◌, ◌*◌, ◌≤◌, ◌<◌}
use native.Mathlib.Nat.{mul-zero, mul-suc, mul-le-mul_left, le_refl}
use native.Mathlib.Omega.{arith}
use mathlib.Core.List.{List, [], ◌∷◌, ◌++◌, append-nil}
use mathlib.Core.Path.{◌≡◌, refl, sym, ap, ap₂, subst, ◌∙◌}
use lib.ListN.{length, get_or}
use Rattle.octets.specs.Bytes.{Bytes}
use mathlib.Core.Bool.{true}
use Rattle.octets.specs.Index.{all_below, list_of}
use Rattle.octets.specs.Part.{part, joined, fields}
use Rattle.octets.proofs.Index.{all_at, all_intro, all_cong}
use Rattle.octets.proofs.Bytes.{nil_bytes, append_bytes, part_bytes}
use Rattle.octets.proofs.ListOf.{list_of_length, list_of_at, list_of_cong, list_of_get_d}
use Rattle.octets.proofs.Part.{part_length, part_nil, part_split, part_whole}
use Rattle.octets.proofs.Joined.{joined_append, joined_one, part_joined, fields_all, fields_length}
use Rattle.codes.specs.Code.{Code}
use Rattle.codes.specs.Codes.{many_code}
use Rattle.codes.proofs.Same.{same_inside}
use Rattle.codes.proofs.Law.{Lawful}

pub many_end : (w n i : ℕ) → i < n → w * i + w ≤ w * n
many_end w n i l = omega (arith, mul-suc w i, mul-le-mul_left w l)

-- records that each stand in their place are the whole
joined_places : {A : Type 0} (code : A → List ℕ) (t : List ℕ) (a w : ℕ) (f : ℕ → A) (n : ℕ)
    → ((i : ℕ) → i < n → code (f i) ≡ part t (a + w * i) w)
    → joined code (list_of f n) ≡ part t a (w * n)
unfolding list_of joined
joined_places code t a w f zero h = sym (part_nil t a) ∙ ap (λ (k : ℕ). part t a k) (sym (mul-zero w))
joined_places code t a w f (suc n) h =
    joined_append code (list_of f n) (f n ∷ [])
    ∙ ap₂ (λ (x y : List ℕ). x ++ y) (joined_places code t a w f n (λ i l. h i (omega arith))) (joined_one code (f n) ∙ h n (le_refl (suc n)))
    ∙ sym (part_split t a (w * n) w)
    ∙ ap (λ (k : ℕ). part t a k) (sym (mul-suc w n))

joined_each : {A : Type 0} (code : A → List ℕ) (d : A) (xs : List A)
    → ((i : ℕ) → i < length xs → Bytes (code (get_or xs i d)))
    → Bytes (joined code xs)
unfolding joined
joined_each code d [] h = nil_bytes
joined_each code d (x ∷ xs) h =
    append_bytes (code x) (joined code xs) (h 0 (omega arith)) (joined_each code d xs (λ i l. h (suc i) (omega arith)))

module _ {A : Type 0} (n : ℕ) (spare : A) {c : Code A} (p : Lawful c) where
  -- record i stands in its place
  pub row_there : (xs : List A) → length xs ≡ n → (i : ℕ) → i < n
      → part (fields c.write n spare xs) (0 + c.width * i) c.width ≡ c.write (get_or xs i spare)
  row_there xs e i l =
      ap (λ (r : List ℕ). part r (0 + c.width * i) c.width) (fields_all c.write n spare xs e ∙ sym (append-nil (joined c.write xs)))
      ∙ part_joined c.write c.width p.wide [] [] 0 xs i spare refl (omega arith)

  module _ (t : List ℕ) (a : ℕ) where
    -- the bytes of record i
    abbrev row : ℕ → List ℕ
    row i = part t (a + c.width * i) c.width

    module _ (l : a + c.width * n ≤ length t) (i : ℕ) (k : i < n) where
      row_length : length (row i) ≡ c.width
      row_length = part_length t (a + c.width * i) c.width (omega (arith, many_end c.width n i k))

      row_fits : 0 + c.width ≤ length (row i)
      row_fits = omega (arith, row_length)

  pub many_lawful : Lawful (many_code n spare c)
  many_lawful =
      record {
        wide = fields_length c.write n spare c.width p.wide;
        sees = λ t a u b e.
            list_of_cong _ _ n
            (λ i l. ap (λ (r : List ℕ). c.read r 0) (same_inside _ t a u b e (c.width * i) c.width (many_end c.width n i l)));
        tests = λ t a u b e.
            all_cong _ _ n
            (λ i l. ap (λ (r : List ℕ). c.fine r 0) (same_inside _ t a u b e (c.width * i) c.width (many_end c.width n i l)));
        back = λ xs g.
            list_of_cong _ (λ i. get_or xs i spare) n (λ i l. ap (λ (r : List ℕ). c.read r 0) (row_there xs g.0 i l) ∙ p.back (get_or xs i spare) (g.1 i l))
            ∙ list_of_get_d spare xs n g.0;
        passes = λ xs g. all_intro _ n (λ i l. ap (λ (r : List ℕ). c.fine r 0) (row_there xs g.0 i l) ∙ p.passes (get_or xs i spare) (g.1 i l));
        bytes = λ xs g.
            subst Bytes (sym (fields_all c.write n spare xs g.0))
            (joined_each c.write spare xs (λ i l. p.bytes (get_or xs i spare) (g.1 i (omega (arith, g.0)))));
        again = λ t a b l f.
            fields_all c.write n spare _ (list_of_length _ n)
            ∙ joined_places c.write t a c.width (λ i. c.read (row t a i) 0) n
            (λ i k. p.again (row t a i) 0 (part_bytes t (a + c.width * i) c.width b) (row_fits t a l i k) (all_at _ n i f k)
            ∙ part_whole (row t a i) c.width (row_length t a l i k));
        keeps = λ t a b l f. (
          list_of_length _ n,
          λ i k. subst c.Good (sym (list_of_at (λ j. c.read (row t a j) 0) n i spare k))
              (p.keeps (row t a i) 0 (part_bytes t (a + c.width * i) c.width b) (row_fits t a l i k) (all_at _ n i f k)),
        );
      }

-- records without a test of their own pass
pub all_true : (n : ℕ) → all_below (λ i. true) n ≡ true
all_true n = all_intro (λ i. true) n (λ i l. refl)
