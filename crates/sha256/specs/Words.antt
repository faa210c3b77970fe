-- FIPS 180-4, sections 2.2.2, 3.2 and 4.1.2: operations on 32-bit words, which are numbers below 2 ^ 32.
-- Assumes nothing.
use Rattle.std.specs.Prelude.{ℕ, ◌+◌, ◌-◌, ◌*◌, ◌/◌, ◌%◌, ◌^◌, bit_and, bit_or, bit_xor}

infixl 60 ◌⊞◌
infixl 50 ◌⊕◌
infixl 55 ◌∧∧◌
-- 3.2, 1: addition modulo 2 ^ 32
abbrev pub ◌⊞◌ : ℕ → ℕ → ℕ
x ⊞ y = (x + y) % 2 ^ 32

-- 2.2.2: exclusive or, and, complement
abbrev pub ◌⊕◌ : ℕ → ℕ → ℕ
x ⊕ y = bit_xor x y

abbrev pub ◌∧∧◌ : ℕ → ℕ → ℕ
x ∧∧ y = bit_and x y

abbrev pub complement : ℕ → ℕ
complement x = 2 ^ 32 - 1 - x

-- 3.2, 3: SHR n x = x >> n
abbrev pub SHR : ℕ → ℕ → ℕ
SHR n x = x / 2 ^ n

-- 2.2.2: x << n, where the bits past the word are lost
abbrev pub SHL : ℕ → ℕ → ℕ
SHL n x = x * 2 ^ n % 2 ^ 32

-- 3.2, 4: ROTR n x = (x >> n) ∨ (x << (32 - n))
abbrev pub ROTR : ℕ → ℕ → ℕ
ROTR n x = bit_or (SHR n x) (SHL (32 - n) x)

-- 4.1.2, (4.2) to (4.7)
abbrev pub Ch : ℕ → ℕ → ℕ → ℕ
Ch x y z = (x ∧∧ y) ⊕ (complement x ∧∧ z)

abbrev pub Maj : ℕ → ℕ → ℕ → ℕ
Maj x y z = (x ∧∧ y) ⊕ (x ∧∧ z) ⊕ (y ∧∧ z)

abbrev pub Σ₀ : ℕ → ℕ
Σ₀ x = ROTR 2 x ⊕ ROTR 13 x ⊕ ROTR 22 x

abbrev pub Σ₁ : ℕ → ℕ
Σ₁ x = ROTR 6 x ⊕ ROTR 11 x ⊕ ROTR 25 x

abbrev pub σ₀ : ℕ → ℕ
σ₀ x = ROTR 7 x ⊕ ROTR 18 x ⊕ SHR 3 x

abbrev pub σ₁ : ℕ → ℕ
σ₁ x = ROTR 17 x ⊕ ROTR 19 x ⊕ SHR 10 x
