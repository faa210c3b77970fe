-- The latest of some times: what an expired record may tell.
use Prim.Native.Nat.{ℕ, zero, suc, ◌≤◌, ◌<◌}
use native.Mathlib.Omega.{arith}
use mathlib.Core.Path.{◌≡◌, refl, ap₂}
use lib.Dec.{ltb}
use Rattle.rules.specs.Relay.{Slot, empty, used}
use Rattle.rules.specs.View.{later, latest}
use Rattle.rules.specs.Blobs.{greatest}
use Rattle.rules.proofs.Choices.{either}

pub latest_cong : (f g : ℕ → Slot ℕ) (n : ℕ) → ((i : ℕ) → i < n → f i ≡ g i) → latest f n ≡ latest g n
unfolding latest
latest_cong f g zero each = refl
latest_cong f g (suc n) each = ap₂ later (latest_cong f g n (λ i l. each i (omega (arith, l)))) (each n (omega arith))

-- a bound on a time that may be none
abbrev pub AtMost : ℕ → Slot ℕ → Type 0
AtMost most empty = Unit {0}
AtMost most (used t) = t ≤ most

later_most : (most : ℕ) (s t : Slot ℕ) → AtMost most s → AtMost most t → AtMost most (later s t)
unfolding later greatest
later_most most empty t a b = b
later_most most (used x) empty a b = a
later_most most (used x) (used y) a b = either (λ n. n ≤ most) (ltb x y) (λ _. b) (λ _. a)

pub latest_most : (most : ℕ) (f : ℕ → Slot ℕ) (n : ℕ) → ((i : ℕ) → AtMost most (f i)) → AtMost most (latest f n)
unfolding latest
latest_most most f zero each = tt
latest_most most f (suc n) each = later_most most (latest f n) (f n) (latest_most most f n each) (each n)
