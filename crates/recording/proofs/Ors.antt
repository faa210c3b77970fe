-- A loop that ORs numbers tells whether each of them is under a power of two.
use Prim.Native.Nat.{ℕ, ◌+◌, ◌^◌}
use native.Mathlib.Numerals.{add-one}
use mathlib.Core.Path.{◌≡◌, ◌∙◌}
use lib.Bits.{bit_or}
use lib.Dec.{ltb}
use Rattle.octets.specs.Index.{all_below}
use Rattle.octets.proofs.Agree.{or_ltb}

-- a loop that ORs the numbers g 0, g 1, ..: one more
pub or_turn : (k : ℕ) (g : ℕ → ℕ) (i v : ℕ) → ltb v (2 ^ k) ≡ all_below (λ j. ltb (g j) (2 ^ k)) i
    → ltb (bit_or v (g i)) (2 ^ k) ≡ all_below (λ j. ltb (g j) (2 ^ k)) (i + 1)
unfolding all_below
or_turn k g i v h = or_ltb k v (g i) ∙ rw (add-one i, h)
