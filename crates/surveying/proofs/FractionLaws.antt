-- The greatest common divisor divides both numbers, and none that does is greater; Euclid's step and end. A fraction in lowest terms.
use Rattle.std.proofs.Common.{◌≡◌, ℕ, zero, suc, ◌+◌, ◌*◌, ◌/◌, ◌%◌, ◌<◌, ◌≤◌, Bool, true, sym, refl, ap, ◌∙◌, subst, mul_assoc, mul_comm, le_antisymm, one-mul, le_of_mul-le-mul_right, arith, lit≤, eq-eqb, ne_eqb, eqb-true}
use Prim.Native.Nat.{◌∣◌}
use native.Mathlib.Nat.{le_of_dvd, dvd_refl, dvd-zero, one-dvd, dvd-add, dvd-mod_iff, dvd_of_mod-eq-zero, mod-eq-zero_of_dvd, div-mul_cancel, div_self, zero-div, zero-mod, mul-dvd-mul_right}
use mathlib.Core.Bool.{false≢true}
use Rattle.octets.specs.Choice.{◌then◌otherwise◌}
use Rattle.octets.proofs.Choice.{then_false}
use Rattle.octets.proofs.Index.{and_left, and_right, and_both}
use Rattle.rules.proofs.Choices.{either}
use Rattle.surveying.specs.Fraction.{greatest_up_to, divides_both, greatest_common_divisor, lowest_terms, share}

-- ---- the greatest that passes
module _ (test : ℕ → Bool) where
  greatest_le : (n : ℕ) → greatest_up_to test n ≤ n
  unfolding greatest_up_to
  greatest_le zero = lit≤ tt
  greatest_le (suc n) = either (λ (x : ℕ). x ≤ suc n) (test (suc n)) (λ _. omega arith) (λ _. omega (arith, greatest_le n))

  greatest_passes : (n : ℕ) → 0 < greatest_up_to test n → test (greatest_up_to test n) ≡ true
  unfolding greatest_up_to
  greatest_passes zero = λ some. absurd (omega (arith, some))
  greatest_passes (suc n) = either (λ (x : ℕ). 0 < x → test x ≡ true) (test (suc n)) (λ e _. e) (λ _. greatest_passes n)

  greatest_most : (n d : ℕ) → 0 < d → d ≤ n → test d ≡ true → d ≤ greatest_up_to test n
  unfolding greatest_up_to
  greatest_most zero d some l h = omega arith
  greatest_most (suc n) d some l h =
      either (λ (x : ℕ). d ≤ x) (test (suc n)) (λ _. l)
      (λ e.
      let other : d ≡ suc n → ⊥ = λ q. false≢true (sym e ∙ ap test (sym q) ∙ h) in
      greatest_most n d some (omega (arith, other)) h)

-- what passes the one test passes the other, within its bound
not_above : (p q : ℕ → Bool) (m n : ℕ) → ((d : ℕ) → 0 < d → p d ≡ true → (q d ≡ true) × (d ≤ n)) → greatest_up_to p m ≤ greatest_up_to q n
not_above p q m n also = go (greatest_up_to p m) refl
  where
    go : (g : ℕ) → greatest_up_to p m ≡ g → greatest_up_to p m ≤ greatest_up_to q n
    go zero e = omega (arith, e)
    go (suc k) e =
        let some : 0 < greatest_up_to p m = omega (arith, e) in
        let passes = also (greatest_up_to p m) some (greatest_passes p m some) in
        greatest_most q n (greatest_up_to p m) some passes.1 passes.0

-- ---- common divisors
module _ (a b d : ℕ) where
  left : divides_both a b d ≡ true → d ∣ a
  unfolding divides_both
  left h = dvd_of_mod-eq-zero d (eqb-true (a % d) 0 (and_left _ _ h))

  right : divides_both a b d ≡ true → d ∣ b
  unfolding divides_both
  right h = dvd_of_mod-eq-zero d (eqb-true (b % d) 0 (and_right _ _ h))

  both : d ∣ a → d ∣ b → divides_both a b d ≡ true
  unfolding divides_both
  both l r = and_both (eq-eqb (a % d) 0 (mod-eq-zero_of_dvd d l)) (eq-eqb (b % d) 0 (mod-eq-zero_of_dvd d r))

module _ (a b : ℕ) where
  -- none is greater
  pub divisor_greatest : 0 < a + b → (d : ℕ) → d ∣ a → d ∣ b → d ≤ greatest_common_divisor a b
  unfolding greatest_common_divisor
  divisor_greatest some zero l r = omega arith
  divisor_greatest some (suc d) l r =
      greatest_most (divides_both a b) (a + b) (suc d) (omega arith) (le_of_dvd some (dvd-add (suc d) l r)) (both a b (suc d) l r)

  pub divisor_some : 0 < a + b → 0 < greatest_common_divisor a b
  divisor_some some = divisor_greatest some 1 (one-dvd a) (one-dvd b)

  divides : 0 < a + b → divides_both a b (greatest_common_divisor a b) ≡ true
  unfolding greatest_common_divisor
  divides some = greatest_passes (divides_both a b) (a + b) (divisor_some some)

  -- it divides both
  pub divisor_left : 0 < a + b → greatest_common_divisor a b ∣ a
  divisor_left some = left a b _ (divides some)

  pub divisor_right : 0 < a + b → greatest_common_divisor a b ∣ b
  divisor_right some = right a b _ (divides some)

-- ---- Euclid: the second number and the remainder have the same common divisors
pub divisor_step : (x y : ℕ) → 0 < y → greatest_common_divisor x y ≡ greatest_common_divisor y (x % y)
unfolding greatest_common_divisor
divisor_step x y some =
    let p = divides_both x y in
    let q = divides_both y (x % y) in
    le_antisymm
    (not_above p q (x + y) (y + x % y) (λ d _ h.
    let r : d ∣ y = right x y d h in
    let l : d ≤ y = le_of_dvd some r in
    (both y (x % y) d r ((dvd-mod_iff d r).1 (left x y d h)), omega arith)))
    (not_above q p (y + x % y) (x + y) (λ d _ h.
    let r : d ∣ y = left y (x % y) d h in
    let l : d ≤ y = le_of_dvd some r in
    (both x y d ((dvd-mod_iff d r).0 (right y (x % y) d h)) r, omega arith)))

pub divisor_end : (x : ℕ) → greatest_common_divisor x 0 ≡ x
unfolding greatest_common_divisor
divisor_end zero = le_antisymm (greatest_le (divides_both 0 0) (0 + 0)) (omega arith)
divisor_end (suc x) =
    let upper = greatest_le (divides_both (suc x) 0) (suc x + 0) in
    le_antisymm (omega (arith, upper))
    (greatest_most (divides_both (suc x) 0) (suc x + 0) (suc x) (omega arith) (omega arith) (both (suc x) 0 (suc x) (dvd_refl (suc x)) (dvd-zero (suc x))))

-- ---- lowest terms
module _ (a b : ℕ) (some : 0 < a + b) where
  abbrev g : ℕ
  g = greatest_common_divisor a b

  -- the same fraction
  pub lowest_same : (lowest_terms a b).above * b ≡ a * (lowest_terms a b).below
  unfolding lowest_terms
  lowest_same =
      let l : a / g * g ≡ a = div-mul_cancel g (divisor_left a b some) in
      let r : b / g * g ≡ b = div-mul_cancel g (divisor_right a b some) in
      ap (λ (n : ℕ). a / g * n) (sym r ∙ mul_comm (b / g) g) ∙ sym (mul_assoc (a / g) g (b / g)) ∙ ap (λ (n : ℕ). n * (b / g)) l

  -- and no number but 1 divides both
  pub lowest_terms_lem : (c : ℕ) → c ∣ (lowest_terms a b).above → c ∣ (lowest_terms a b).below → c ≤ 1
  unfolding lowest_terms
  lowest_terms_lem c l r =
      let times : (n : ℕ) → g ∣ n → c ∣ n / g → c * g ∣ n =
      λ n h k. subst (λ (m : ℕ). c * g ∣ m) (div-mul_cancel g h) (mul-dvd-mul_right c k g) in
      let most : c * g ≤ g =
      divisor_greatest a b some (c * g) (times a (divisor_left a b some) l) (times b (divisor_right a b some) r) in
      le_of_mul-le-mul_right (subst (λ (m : ℕ). c * g ≤ m) (sym (one-mul g)) most) (divisor_some a b some)

-- ---- the share
pub share_none : (dropped : ℕ) → share dropped 0 ≡ record { above = 0; below = 1 }
unfolding share ◌then◌otherwise◌
share_none dropped = refl

pub share_some : (dropped packets : ℕ) → 0 < packets → share dropped packets ≡ lowest_terms dropped packets
unfolding share
share_some dropped packets some = then_false _ _ (ne_eqb packets 0 (λ e. omega (arith, e)))

-- none was dropped, whether some came or not
pub share_of_none : (packets : ℕ) → share 0 packets ≡ record { above = 0; below = 1 }
unfolding lowest_terms
share_of_none zero = share_none 0
share_of_none (suc n) =
    let p : ℕ = suc n in
    let whole : greatest_common_divisor 0 p ≡ p =
    divisor_step 0 p (omega arith) ∙ ap (greatest_common_divisor p) (zero-mod p) ∙ divisor_end p in
    share_some 0 p (omega arith)
    ∙ ap (λ (g : ℕ). record { above = 0 / g; below = p / g }) whole
    ∙ λ i. record { above = zero-div p i; below = div_self {n = p} (omega arith) i }
