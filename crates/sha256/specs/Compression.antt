-- FIPS 180-4, section 6.2.2: the hash computation on one block of 64 bytes.
-- Assumes nothing.
use Rattle.std.specs.Prelude.{ℕ, zero, suc, ◌-◌, ◌*◌, cond, List, [], ◌∷◌, ◌++◌, nat_lt, slice_index, slice_index_or}
use Rattle.sha256.specs.declared.state.State.{State}
use Rattle.sha256.specs.Words.{◌⊞◌, Ch, Maj, Σ₀, Σ₁, σ₀, σ₁}
use Rattle.sha256.specs.Bytes.{word_at}
use Rattle.sha256.specs.Constants.{K}

-- step 1, 16 ≤ t ≤ 63: word t from the words w before it
unfoldable pub expanded_word : List ℕ → ℕ → ℕ
expanded_word w t = σ₁ (slice_index w (t - 2)) ⊞ slice_index_or w (t - 7) 0 ⊞ σ₀ (slice_index w (t - 15)) ⊞ slice_index_or w (t - 16) 0

-- step 1: word t is the block's for t ≤ 15
abbrev pub schedule_word : List ℕ → List ℕ → ℕ → ℕ
schedule_word block w t = cond (nat_lt t 16) (word_at block (4 * t)) (expanded_word w t)

abbrev pub with_word : List ℕ → List ℕ → ℕ → List ℕ
with_word block w t = w ++ (schedule_word block w t ∷ [])

-- the first t words of the message schedule
unfoldable pub W : List ℕ → ℕ → List ℕ
W block zero = []
W block (suc t) = with_word block (W block t) t

-- step 3: one round on the working variables, with its constant k and its word w
unfoldable pub T₁ : State → ℕ → ℕ → ℕ
T₁ s k w = s.h ⊞ Σ₁ s.e ⊞ Ch s.e s.f s.g ⊞ k ⊞ w

unfoldable pub T₂ : State → ℕ
T₂ s = Σ₀ s.a ⊞ Maj s.a s.b s.c

unfoldable pub after_round : State → ℕ → ℕ → State
after_round s k w = record { a = T₁ s k w ⊞ T₂ s; b = s.a; c = s.b; d = s.c; e = s.d ⊞ T₁ s k w; f = s.e; g = s.f; h = s.g }

-- the first t rounds
unfoldable pub after_rounds : State → List ℕ → ℕ → State
after_rounds s w zero = s
after_rounds s w (suc t) = after_round (after_rounds s w t) (slice_index K t) (slice_index w t)

-- step 4: the next intermediate hash value, from the last one, s, and the working variables r
unfoldable pub intermediate_hash : State → State → State
intermediate_hash s r =
    record {
      a = r.a ⊞ s.a;
      b = r.b ⊞ s.b;
      c = r.c ⊞ s.c;
      d = r.d ⊞ s.d;
      e = r.e ⊞ s.e;
      f = r.f ⊞ s.f;
      g = r.g ⊞ s.g;
      h = r.h ⊞ s.h;
    }

-- steps 1 to 4; step 2 starts the working variables at the last hash value
unfoldable pub compressed : State → List ℕ → State
compressed s block = intermediate_hash s (after_rounds s (W block 64) 64)
