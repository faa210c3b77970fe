-- The laws of `sum_below`, and of runs of bytes of given lengths, one after the other.
use Prim.Native.Nat.{ℕ, zero, suc, ◌+◌, ◌*◌, ◌≤◌, ◌<◌}
use native.Mathlib.Nat.{le_refl, mul-zero, mul-suc, not-suc-le-zero, zero-add, eq-or-lt_of_le, le_of_suc-le-suc}
use native.Mathlib.Numerals.{add-one}
use native.Mathlib.Omega.{arith}
use mathlib.Core.List.{List, [], ◌∷◌, ◌++◌, append-nil, append_assoc, map}
use mathlib.Core.Logic.{⊎_elim}
use mathlib.Core.Path.{◌≡◌, refl, sym, ap, ap₂, subst, ◌∙◌}
use lib.ListN.{length, length-append, take, drop}
use Rattle.std.specs.List.{sum, range_with_len}
use Rattle.std.proofs.lemmas.List.FromFn.{sum_by-map-range_with_len_more}
use lib.Seq.{drop-append-add}
use Rattle.octets.specs.Bytes.{Bytes}
use Rattle.octets.specs.Index.{list_of}
use Rattle.octets.specs.Part.{part, patch, joined}
use Rattle.octets.proofs.Bytes.{nil_bytes, append_bytes}
use Rattle.octets.proofs.Part.{part_split, part_mid, part_nil, part_front, patch_join}
use Rattle.octets.proofs.Joined.{joined_append, joined_one}
use Rattle.recording.specs.Shape.{sum_below}

-- three writes side by side are one
pub patch_three : (t : List ℕ) (a b c : ℕ) (x y z : List ℕ) → a + length x ≡ b → b + length y ≡ c → c + length z ≤ length t
    → patch (patch (patch t a x) b y) c z ≡ patch t a (x ++ (y ++ z))
patch_three t a b c x y z e d l =
    ap (λ (r : List ℕ). patch r c z) (patch_join t a b x y e (omega arith))
    ∙ patch_join t a c (x ++ y) z (ap (λ (k : ℕ). a + k) (length-append x y) ∙ omega arith) l
    ∙ ap (patch t a) (append_assoc x y z)

-- the second of two
pub part_last : (p q : List ℕ) (a n : ℕ) → length p ≡ a → length q ≡ n → part (p ++ q) a n ≡ q
part_last p q a n ep eq =
    ap (λ (r : List ℕ). part (p ++ r) a n) (sym (append-nil q)) ∙ part_mid p q [] a n ep eq

-- a part that lies in the second, behind a first of a bytes
pub part_back : (p q : List ℕ) (a s m : ℕ) → length p ≡ a → part (p ++ q) (a + s) m ≡ part q s m
unfolding part
part_back p q a s m e =
    ap (λ (k : ℕ). take m (drop (k + s) (p ++ q))) (sym e) ∙ ap (λ (r : List ℕ). take m r) (drop-append-add p q s)

module _ (g : ℕ → ℕ) where
  pub sum_none : sum_below g 0 ≡ 0
  unfolding sum_below
  sum_none = refl

  pub sum_more : (i : ℕ) → sum_below g (i + 1) ≡ sum_below g i + g i
  unfolding sum_below
  sum_more i = ap (sum_below g) (add-one i)

  -- the sum of a chain over 0..n
  pub sum_over : (n : ℕ) → sum (map g (range_with_len 0 n)) ≡ sum_below g n
  unfolding sum_below
  sum_over zero = refl
  sum_over (suc n) =
      ap (λ (k : ℕ). sum (map g (range_with_len 0 k))) (sym (add-one n))
      ∙ sum_by-map-range_with_len_more (λ x. x) g 0 n n (zero-add n)
      ∙ ap (λ (k : ℕ). k + g n) (sum_over n)

  -- what ends at i ends within the whole
  pub sum_within : (n i : ℕ) → i < n → sum_below g i + g i ≤ sum_below g n
  unfolding sum_below
  sum_within zero i l = absurd (not-suc-le-zero l)
  sum_within (suc n) i l =
      ⊎_elim
      (λ (q : i ≡ n). subst (λ (k : ℕ). sum_below g i + g i ≤ sum_below g k + g k) q (le_refl (sum_below g i + g i)))
      (λ (m : i < n). omega (arith, sum_within n i m))
      (eq-or-lt_of_le (le_of_suc-le-suc l))

  pub sum_bound : (m n : ℕ) → ((i : ℕ) → i < n → g i ≤ m) → sum_below g n ≤ m * n
  unfolding sum_below
  sum_bound m zero h = omega (arith, mul-zero m)
  sum_bound m (suc n) h =
      omega (arith, mul-suc m n, sum_bound m n (λ i l. h i (omega arith)), h n (le_refl (suc n)))

pub sum_cong : (g h : ℕ → ℕ) (n : ℕ) → ((i : ℕ) → i < n → g i ≡ h i) → sum_below g n ≡ sum_below h n
unfolding sum_below
sum_cong g h zero e = refl
sum_cong g h (suc n) e = rw (sum_cong g h n (λ i l. e i (omega arith)), e n (le_refl (suc n)))

pub sum_const : (w n : ℕ) → sum_below (λ i. w) n ≡ w * n
unfolding sum_below
sum_const w zero = sym (mul-zero w)
sum_const w (suc n) = rw (sum_const w n) (sym (mul-suc w n))

-- lists of two kinds whose codes are equal
pub joined_cong : {A B : Type 0} (code : A → List ℕ) (x : ℕ → A) (other : B → List ℕ) (y : ℕ → B) (n : ℕ)
    → ((i : ℕ) → i < n → code (x i) ≡ other (y i)) → joined code (list_of x n) ≡ joined other (list_of y n)
unfolding list_of joined
joined_cong code x other y zero e = refl
joined_cong code x other y (suc n) e =
    joined_append code (list_of x n) (x n ∷ [])
    ∙ ap₂ (λ (p q : List ℕ). p ++ (q ++ [])) (joined_cong code x other y n (λ i l. e i (omega arith))) (e n (le_refl (suc n)))
    ∙ sym (joined_append other (list_of y n) (y n ∷ []))

module _ {A : Type 0} (code : A → List ℕ) (x : ℕ → A) where
  pub joined_more : (n : ℕ) → joined code (list_of x (suc n)) ≡ joined code (list_of x n) ++ code (x n)
  unfolding list_of
  joined_more n = joined_append code (list_of x n) (x n ∷ []) ∙ ap (λ (r : List ℕ). joined code (list_of x n) ++ r) (joined_one code (x n))

  pub joined_none : joined code (list_of x 0) ≡ []
  unfolding list_of joined
  joined_none = refl

  -- ---- a list whose codes stand one after the other from `base` on, each as long as `long` says, is that part
  module _ (t : List ℕ) (base : ℕ) (long : ℕ → ℕ) where
    pub joined_cut : (n : ℕ) → ((i : ℕ) → i < n → code (x i) ≡ part t (base + sum_below long i) (long i))
        → joined code (list_of x n) ≡ part t base (sum_below long n)
    unfolding sum_below
    joined_cut zero e = joined_none ∙ sym (part_nil t base)
    joined_cut (suc n) e =
        joined_more n
        ∙ ap₂ (λ (p q : List ℕ). p ++ q) (joined_cut n (λ i l. e i (omega arith))) (e n (le_refl (suc n)))
        ∙ sym (part_split t base (sum_below long n) (long n))

  -- the same where all have one width
  pub joined_items : (t : List ℕ) (base w n : ℕ) → ((i : ℕ) → i < n → code (x i) ≡ part t (base + w * i) w) → joined code (list_of x n) ≡ part t base (w * n)
  joined_items t base w n e =
      joined_cut t base (λ i. w) n (λ i l. e i l ∙ ap (λ (k : ℕ). part t (base + k) w) (sym (sum_const w i)))
      ∙ ap (part t base) (sum_const w n)

  -- ---- the codes of a list, found again in what they make
  pub joined_sum : (n : ℕ) → length (joined code (list_of x n)) ≡ sum_below (λ i. length (code (x i))) n
  unfolding sum_below
  joined_sum zero = ap length joined_none
  joined_sum (suc n) =
      ap length (joined_more n) ∙ length-append (joined code (list_of x n)) (code (x n)) ∙ ap (λ (k : ℕ). k + length (code (x n))) (joined_sum n)

  pub joined_each_bytes : (n : ℕ) → ((i : ℕ) → i < n → Bytes (code (x i))) → Bytes (joined code (list_of x n))
  joined_each_bytes zero h = subst Bytes (sym joined_none) nil_bytes
  joined_each_bytes (suc n) h =
      subst Bytes (sym (joined_more n))
      (append_bytes (joined code (list_of x n)) (code (x n)) (joined_each_bytes n (λ i l. h i (omega arith))) (h n (le_refl (suc n))))

  pub joined_found : (n i : ℕ) → i < n → part (joined code (list_of x n)) (sum_below (λ j. length (code (x j))) i) (length (code (x i))) ≡ code (x i)
  joined_found zero i l = absurd (not-suc-le-zero l)
  joined_found (suc n) i l =
      ap (λ (r : List ℕ). part r (sum_below (λ j. length (code (x j))) i) (length (code (x i)))) (joined_more n)
      ∙ ⊎_elim
      (λ (q : i ≡ n).
      subst (λ (k : ℕ). part (joined code (list_of x n) ++ code (x n)) (sum_below (λ j. length (code (x j))) k) (length (code (x k))) ≡ code (x k)) (sym q)
      (part_last (joined code (list_of x n)) (code (x n)) (sum_below (λ j. length (code (x j))) n) (length (code (x n))) (joined_sum n) refl))
      (λ (m : i < n).
      part_front (joined code (list_of x n)) (code (x n)) (sum_below (λ j. length (code (x j))) i) (length (code (x i)))
      (omega (arith, joined_sum n, sum_within (λ j. length (code (x j))) n i m))
      ∙ joined_found n i m)
      (eq-or-lt_of_le (le_of_suc-le-suc l))

  -- the same where all have one width
  pub joined_item : (w n i : ℕ) → ((j : ℕ) → length (code (x j)) ≡ w) → i < n → part (joined code (list_of x n)) (w * i) w ≡ code (x i)
  joined_item w n i wide l =
      ap₂ (part (joined code (list_of x n)))
      (sym (sum_cong (λ j. length (code (x j))) (λ j. w) i (λ j m. wide j) ∙ sum_const w i)) (sym (wide i))
      ∙ joined_found n i l
