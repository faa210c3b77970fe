-- What a caller may cite besides the contract's equation: a digest is 32 bytes, and which messages are refused.
-- Assumes nothing.
use Rattle.std.proofs.Common.{Option, Some, None, ap, ◌∙◌, ◌≡◌, ℕ, zero, suc, ◌<◌, ◌≤◌, List, [], ◌∷◌, ◌++◌, length, get_or, replicate, refl, arith, le-leb}
use borrow.Author.Tests.{lt-leb}
use Rattle.sha256.specs.declared.state.State.{State}
use Rattle.sha256.specs.Bytes.{bytes4}
use Rattle.sha256.specs.Sha256.{Digest, digest_as, digest_bytes, sha256_of, longest_message, answer}

pub digest_length : (m : List ℕ) → length (sha256_of m) ≡ 32
unfolding sha256_of
digest_length m = refl

pub answer_short : (m : List ℕ) → length m ≤ longest_message → answer m ≡ record { refusal = 0; bytes = sha256_of m }
answer_short m h = rw (le-leb (length m) longest_message h)

pub answer_long : (m : List ℕ) → longest_message < length m → answer m ≡ record { refusal = 2; bytes = replicate 32 0 }
answer_long m h = rw (lt-leb (length m) longest_message h)

Below : List ℕ → Type 0
Below l = (i : ℕ) → get_or l i 0 < 256

both : (a b : List ℕ) → Below a → Below b → Below (a ++ b)
unfolding Below
both [] b p q i = q i
both (x ∷ a) b p q zero = p zero
both (x ∷ a) b p q (suc i) = both a b (λ (j : ℕ). p (suc j)) q i

word : (x : ℕ) → Below (bytes4 x)
unfolding Below
word x zero = omega arith
word x (suc zero) = omega arith
word x (suc (suc zero)) = omega arith
word x (suc (suc (suc zero))) = omega arith
word x (suc (suc (suc (suc i)))) = omega arith

state : (s : State) → Below (digest_bytes s)
state s =
    let four = both _ _ (both _ _ (both _ _ (word s.a) (word s.b)) (word s.c)) (word s.d) in
    both _ _ (both _ _ (both _ _ (both _ _ four (word s.e)) (word s.f)) (word s.g)) (word s.h)

pub digest_byte : (m : List ℕ) (i : ℕ) → get_or (sha256_of m) i 0 < 256
unfolding sha256_of Below
digest_byte m i = state _ i

-- a message that is no longer has its digest
pub digest_there : (o : Option (List ℕ)) (m : List ℕ) → digest_as o ≡ answer m → length m ≤ longest_message → o ≡ Some (sha256_of m)
digest_there (Some bytes) m e short = ap (λ (d : Digest). Some d.bytes) (e ∙ answer_short m short)
digest_there None m e short =
    let two_is_none : ◌≡◌ {A = ℕ} 2 0 = ap (λ (d : Digest). d.refusal) (e ∙ answer_short m short) in cc
