-- The rounds: the code makes them four at a time, on the words that are stored so far.
-- Assumes nothing.
use Rattle.std.proofs.Common.{◌≡◌, ℕ, zero, suc, ◌+◌, ◌<◌, ◌≤◌, List, get_or, take, refl, ap, ◌∙◌, add-zero, add_assoc, add-suc, lt-suc_self, arith}
use Rattle.sha256.specs.declared.state.State.{State}
use Rattle.sha256.specs.Constants.{K}
use Rattle.sha256.specs.Compression.{W, after_round, after_rounds}
use Rattle.sha256.specs.Steps.{after_rounds_from}
use Rattle.sha256.proofs.ScheduleLaws.{word_stored}

pub four_rounds : (s s₁ s₂ s₃ r : State) (k w : List ℕ) (t : ℕ) → s₁ ≡ after_round s (get_or k t 0) (get_or w t 0)
    → s₂ ≡ after_round s₁ (get_or k (t + 1) 0) (get_or w (t + 1) 0) → s₃ ≡ after_round s₂ (get_or k (t + 2) 0) (get_or w (t + 2) 0)
    → r ≡ after_round s₃ (get_or k (t + 3) 0) (get_or w (t + 3) 0) → r ≡ after_rounds_from s k w t 4
unfolding after_rounds_from
four_rounds s s₁ s₂ s₃ r k w t e₁ e₂ e₃ e₄ = rw add-zero (cc)

-- n rounds and m more
rounds_join : (s : State) (k w : List ℕ) (t n m : ℕ) → after_rounds_from (after_rounds_from s k w t n) k w (t + n) m ≡ after_rounds_from s k w t (n + m)
unfolding after_rounds_from
rounds_join s k w t n zero = rw add-zero
rounds_join s k w t n (suc m) = rw (add-suc, rounds_join s k w t n m, add_assoc t n m)

pub rounds_then : (s r q : State) (k w : List ℕ) (t n m : ℕ) → r ≡ after_rounds_from s k w t n → q ≡ after_rounds_from r k w (t + n) m
    → q ≡ after_rounds_from s k w t (n + m)
rounds_then s r q k w t n m e₁ e₂ = e₂ ∙ ap (λ (x : State). after_rounds_from x k w (t + n) m) e₁ ∙ rounds_join s k w t n m

-- n rounds after t rounds are t + n rounds
rounds_from : (s : State) (w : List ℕ) (t n : ℕ) → after_rounds_from (after_rounds s w t) K w t n ≡ after_rounds s w (t + n)
unfolding after_rounds after_rounds_from
rounds_from s w t zero = rw add-zero
rounds_from s w t (suc n) = rw (add-suc, rounds_from s w t n)

-- rounds that see the same words
rounds_agree : (s : State) (k w w' : List ℕ) (t n : ℕ) → ((i : ℕ) → i < n → get_or w (t + i) 0 ≡ get_or w' (t + i) 0)
    → after_rounds_from s k w t n ≡ after_rounds_from s k w' t n
unfolding after_rounds_from
rounds_agree s k w w' t zero h = refl
rounds_agree s k w w' t (suc n) h = rw (h n (lt-suc_self n), rounds_agree s k w w' t n (λ (i : ℕ) (p : i < n). h i (omega arith)))

-- n more rounds on a schedule w whose first u words are stored
pub rounds_stored : (s : State) (block w : List ℕ) (u t n : ℕ) (r q : State) → u ≤ 64 → t + n ≤ u → take u w ≡ W block u → r ≡ after_rounds s (W block 64) t
    → q ≡ after_rounds_from r K w t n → q ≡ after_rounds s (W block 64) (t + n)
rounds_stored s block w u t n r q hu h e e₁ e₂ =
    e₂
    ∙ rounds_agree r K w (W block 64) t n (λ (i : ℕ) (l : i < n). word_stored block w u (t + i) hu (omega arith) e)
    ∙ ap (λ (x : State). after_rounds_from x K (W block 64) t n) e₁
    ∙ rounds_from s (W block 64) t n
