-- For the contracts of private helpers, which do a part of the standard's steps. Not part of what a reader must believe:
-- the proofs show that the parts make up the definitions of Compression.
-- Assumes nothing.
use Rattle.std.specs.Prelude.{ℕ, zero, suc, ◌+◌, List, slice_index, slice_set}
use Rattle.sha256.specs.declared.state.State.{State}
use Rattle.sha256.specs.Compression.{expanded_word, after_round}

-- n rounds from round t on, with the constants k: `after_rounds` at K from round 0
unfoldable pub after_rounds_from : State → List ℕ → List ℕ → ℕ → ℕ → State
after_rounds_from s k w t zero = s
after_rounds_from s k w t (suc n) = after_round (after_rounds_from s k w t n) (slice_index k (t + n)) (slice_index w (t + n))

-- word t of a schedule, set from those before it
abbrev pub with_expanded : List ℕ → ℕ → List ℕ
with_expanded w t = slice_set w t (expanded_word w t)

-- n words from word t on
unfoldable pub expanded_from : List ℕ → ℕ → ℕ → List ℕ
expanded_from w t zero = w
expanded_from w t (suc n) = with_expanded (expanded_from w t n) (t + n)
