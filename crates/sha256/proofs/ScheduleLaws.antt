-- The message schedule: the words as the code stores them are those of the definition.
-- Assumes nothing.
use Rattle.std.proofs.Common.{◌≡◌, ℕ, zero, suc, ◌+◌, ◌-◌, ◌*◌, ◌<◌, ◌≤◌, List, [], ◌∷◌, ◌++◌, length, get_or, take, set, replicate, sym, refl, ap, ◌∙◌, add-zero, add-suc, add-one, arith, length-append, length-set, take_all, get_or-take, take-suc-set, take_at, le-ltb, lt-ltb}
use lib.Seq.{take-append-le}
use Rattle.sha256.specs.Bytes.{word_at}
use Rattle.sha256.specs.Compression.{W, schedule_word, expanded_word}
use Rattle.sha256.specs.Steps.{expanded_from}
use Rattle.sha256.proofs.ZeroLaws.{stored_over_zero}

length_W : (block : List ℕ) (n : ℕ) → length (W block n) ≡ n
unfolding W
length_W block zero = refl
length_W block (suc n) = length-append (W block n) (schedule_word block (W block n) n ∷ []) ∙ rw (length_W block n) (add-one n)

-- one more word of the block, over the first zero
pub first_words_more : (block w : List ℕ) (t v : ℕ) → t < 16 → w ≡ W block t ++ replicate (64 - t) 0 → v ≡ word_at block (4 * t)
    → set w t v ≡ W block (t + 1) ++ replicate (64 - (t + 1)) 0
unfolding W
first_words_more block w t v h e q =
    let next : W block t ++ (v ∷ []) ≡ W block (t + 1) = rw (add-one t, lt-ltb t 16 h) (cc) in
    ap (λ (x : List ℕ). set x t v) e
    ∙ stored_over_zero (W block t) 64 t v (length_W block t) (omega arith)
    ∙ ap (λ (x : List ℕ). x ++ replicate (64 - (t + 1)) 0) next

pub first_words_take : (block w : List ℕ) → w ≡ W block 16 ++ replicate 48 0 → take 16 w ≡ W block 16
first_words_take block w e = ap (take 16) e ∙ take_at (W block 16) (replicate 48 0) 16 (length_W block 16)

-- a word that is expanded from stored ones
stored_word : (block w : List ℕ) (t : ℕ) → 16 ≤ t → t < length w → take t w ≡ W block t → take (suc t) (set w t (expanded_word w t)) ≡ W block (suc t)
unfolding W expanded_word
stored_word block w t l h e =
    let p₁ : t - 2 < t = omega arith in
    let p₂ : t - 7 < t = omega arith in
    let p₃ : t - 15 < t = omega arith in
    let p₄ : t - 16 < t = omega arith in
    let q : expanded_word w t ≡ schedule_word block (W block t) t =
    rw (
      le-ltb t 16 l,
      ← e,
      get_or-take t w (t - 2) 0 p₁,
      get_or-take t w (t - 7) 0 p₂,
      get_or-take t w (t - 15) 0 p₃,
      get_or-take t w (t - 16) 0 p₄,
    ) in
    take-suc-set w t (expanded_word w t) h ∙ cc

pub length_expanded : (w : List ℕ) (t n : ℕ) → length (expanded_from w t n) ≡ length w
unfolding expanded_from
length_expanded w t zero = refl
length_expanded w t (suc n) = length-set (expanded_from w t n) (t + n) (expanded_word (expanded_from w t n) (t + n)) ∙ length_expanded w t n

pub expanded_words : (block w : List ℕ) (t n : ℕ) → 16 ≤ t → t + n ≤ length w → take t w ≡ W block t → take (t + n) (expanded_from w t n) ≡ W block (t + n)
unfolding expanded_from
expanded_words block w t zero l h e = rw add-zero e
expanded_words block w t (suc n) l h e =
    let x = expanded_from w t n in
    rw add-suc (stored_word block x (t + n) (omega arith) (omega (arith, length_expanded w t n)) (expanded_words block w t n l (omega arith) e))

pub expanded_more : (w x : List ℕ) (t n v : ℕ) → x ≡ expanded_from w t n → v ≡ expanded_word x (t + n) → set x (t + n) v ≡ expanded_from w t (n + 1)
unfolding expanded_from
expanded_more w x t n v e q = rw add-one (cc)

-- the schedule begins with each shorter one
prefix_W : (block : List ℕ) (n k : ℕ) → take n (W block (n + k)) ≡ W block n
unfolding W
prefix_W block n zero = rw add-zero (take_all n (W block n) (omega (arith, length_W block n)))
prefix_W block n (suc k) =
    let w = W block (n + k) in
    let h : n ≤ length w = omega (arith, length_W block (n + k)) in
    rw add-suc (take-append-le n w (schedule_word block w (n + k) ∷ []) h ∙ prefix_W block n k)

-- so a word that is stored is the whole schedule's
pub word_stored : (block w : List ℕ) (u i : ℕ) → u ≤ 64 → i < u → take u w ≡ W block u → get_or w i 0 ≡ get_or (W block 64) i 0
word_stored block w u i hu h e =
    let k : u + (64 - u) ≡ 64 = omega arith in
    let p : take u (W block 64) ≡ W block u = rw k at (prefix_W block u (64 - u)) in
    sym (get_or-take u w i 0 h) ∙ ap (λ (l : List ℕ). get_or l i 0) (e ∙ sym p) ∙ get_or-take u (W block 64) i 0 h
