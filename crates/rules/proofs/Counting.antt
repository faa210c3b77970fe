-- How many indices pass a test.
use Prim.Native.Nat.{ℕ, zero, suc, ◌+◌, ◌≤◌, ◌<◌}
use native.Mathlib.Omega.{arith}
use native.Mathlib.Nat.{le_refl}
use mathlib.Core.Bool.{Bool, true, false}
use mathlib.Core.Path.{◌≡◌, refl}
use Rattle.octets.specs.Choice.{◌then◌otherwise◌}
use Rattle.rules.specs.Questions.{count_below}

pub count_cong : (p q : ℕ → Bool) (n : ℕ) → ((i : ℕ) → i < n → p i ≡ q i) → count_below p n ≡ count_below q n
unfolding count_below
count_cong p q zero h = refl
count_cong p q (suc n) h = rw (count_cong p q n (λ i l. h i (omega arith)), h n (le_refl (suc n)))

-- at most all of them
pub count_le : (p : ℕ → Bool) (n : ℕ) → count_below p n ≤ n
unfolding count_below ◌then◌otherwise◌
count_le p zero = le_refl 0
count_le p (suc n) = go (p n) (count_le p n)
  where
    go : (b : Bool) → count_below p n ≤ n → count_below p n + (b then 1 otherwise 0) ≤ suc n
    go true l = omega arith
    go false l = omega arith
