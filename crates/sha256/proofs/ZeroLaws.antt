-- Lists that end in zeros.
-- Assumes nothing.
use Rattle.std.proofs.Common.{◌≡◌, ℕ, suc, ◌+◌, ◌-◌, ◌<◌, List, [], ◌∷◌, ◌++◌, length, set, replicate, sym, ◌∙◌, arith}
use lib.Seq.{set_at, append_snoc}

-- a store over the first of the zeros, in a list of n elements
pub stored_over_zero : (l : List ℕ) (n i v : ℕ) → length l ≡ i → i < n → set (l ++ replicate (n - i) 0) i v ≡ (l ++ (v ∷ [])) ++ replicate (n - (i + 1)) 0
stored_over_zero l n i v q h =
    let z : List ℕ = replicate (n - (i + 1)) 0 in
    let e : n - i ≡ suc (n - (i + 1)) = omega arith in
    rw e (set_at l 0 z v i q ∙ sym (append_snoc l v z))
