-- The digest's bytes: those of its words, one word after the other.
-- Assumes nothing.
use Rattle.std.proofs.Common.{◌≡◌, ℕ, zero, suc, ◌+◌, ◌*◌, ◌<◌, ◌≤◌, List, [], ◌∷◌, ◌++◌, length, get_or, take, refl, ap, ap₂, ◌∙◌, sym, add-one, arith}
use Rattle.std.proofs.lemmas.Slice.{take-put_mid}
use Rattle.std.specs.Int.{to_be_bytes, w32}
use borrow.Rule.Slice.PartMut.{put_mid}
use Rattle.sha256.specs.Bytes.{bytes4}

unfoldable pub all_bytes : List ℕ → List ℕ
all_bytes [] = []
all_bytes (x ∷ xs) = bytes4 x ++ all_bytes xs

one_more : (xs : List ℕ) (i : ℕ) → i < length xs → all_bytes (take (suc i) xs) ≡ all_bytes (take i xs) ++ bytes4 (get_or xs i 0)
unfolding all_bytes
one_more [] i h = absurd (omega arith)
one_more (x ∷ xs) zero h = refl
one_more (x ∷ xs) (suc i) h = ap (λ (r : List ℕ). bytes4 x ++ r) (one_more xs i (omega arith))

-- a word's bytes, stored behind those of the words before it
pub stored_bytes : (xs b s : List ℕ) (i k : ℕ) → i < length xs → 4 * i ≤ length b → take (4 * i) b ≡ all_bytes (take i xs) → s ≡ to_be_bytes w32 (get_or xs i 0)
    → take (4 * (i + 1)) (put_mid (4 * i) k b s) ≡ all_bytes (take (i + 1) xs)
stored_bytes xs b s i k h l e q =
    let v : s ≡ bytes4 (get_or xs i 0) = q in
    take-put_mid (4 * i) k b s (4 * (i + 1)) (omega (arith, ap length v)) l
    ∙ rw add-one (ap₂ (λ (p r : List ℕ). p ++ r) e v ∙ sym (one_more xs i h))
