-- The blocks of a padded message: the message's whole blocks, and the one or two that the padding ends.
-- Assumes nothing.
use Rattle.std.proofs.Common.{◌≡◌, ℕ, zero, suc, ◌+◌, ◌-◌, ◌*◌, ◌/◌, ◌%◌, ◌<◌, ◌≤◌, List, ◌++◌, length, take, drop, replicate, sym, refl, ap, ◌∙◌, add-one, arith, length-drop, take_all, take-take, drop-drop}
use lib.Seq.{take-append-le, drop-append-le}
use Rattle.sha256.specs.declared.state.State.{State}
use Rattle.sha256.specs.Padding.{zero_bytes, padding, padded, block}
use Rattle.sha256.specs.Compression.{compressed}
use Rattle.sha256.specs.Sha256.{hash_after}
use Rattle.sha256.proofs.PaddingLaws.{padded_length, padded_rest_take}

-- one more block
pub hash_more : (m : List ℕ) (i : ℕ) (s r : State) (b : List ℕ) → s ≡ hash_after m i → b ≡ block m i → r ≡ compressed s b → r ≡ hash_after m (i + 1)
unfolding hash_after
hash_more m i s r b p q e = rw add-one (cc)

-- what follows the first i blocks does not matter to them
hash_front : (m x : List ℕ) (i : ℕ) → 64 * i ≤ length m → hash_after (m ++ x) i ≡ hash_after m i
unfolding hash_after
hash_front m x zero h = refl
hash_front m x (suc i) h =
    let p : 64 * i ≤ length m = omega arith in
    let q : 64 ≤ length (drop (64 * i) m) = simp length-drop (omega arith) in
    rw (hash_front m x i p, drop-append-le (64 * i) m x p, take-append-le 64 (drop (64 * i) m) x q)

module _ (m : List ℕ) (s : State) (b : List ℕ) (e : s ≡ hash_after m (length m / 64)) where
  start : s ≡ hash_after (padded m) (length m / 64)
  unfolding padded
  start = e ∙ sym (hash_front m (padding (length m)) (length m / 64) (omega arith))

  -- what is left after the whole blocks of the message
  left : drop (64 * (length m / 64)) (padded m) ≡ drop (64 * (length m / 64)) m ++ padding (length m)
  unfolding padded
  left = drop-append-le (64 * (length m / 64)) m (padding (length m)) (omega arith)

  pub one_block : (r : State) → length m % 64 < 56 → take 64 b ≡ drop (64 * (length m / 64)) m ++ padding (length m) → r ≡ compressed s (take 64 b)
      → r ≡ hash_after (padded m) (length (padded m) / 64)
  one_block r h q c =
      let n : length (padded m) / 64 ≡ length m / 64 + 1 = omega (arith, padded_length m) in
      rw n (hash_more (padded m) (length m / 64) s r (take 64 b) start (sym (take-take 64 64 b (omega arith)) ∙ ap (take 64) (q ∙ sym left)) c)

  pub two_blocks : (r r' : State) → 56 ≤ length m % 64 → length b ≡ 128 → take 128 b ≡ drop (64 * (length m / 64)) m ++ padding (length m)
      → r ≡ compressed s (take 64 b) → r' ≡ compressed r (take 64 (drop 64 b)) → r' ≡ hash_after (padded m) (length (padded m) / 64)
  two_blocks r r' h l q c c' =
      let i = length m / 64 in
      let n : length (padded m) / 64 ≡ i + 1 + 1 = omega (arith, padded_length m) in
      let w : b ≡ drop (64 * i) (padded m) = sym (take_all 128 b (omega arith)) ∙ q ∙ sym left in
      let k : 64 * i + 64 ≡ 64 * (i + 1) = omega arith in
      rw n
      (hash_more (padded m) (i + 1) r r' (take 64 (drop 64 b)) (hash_more (padded m) i s r (take 64 b) start (ap (take 64) w) c)
      (ap (λ (t : List ℕ). take 64 (drop 64 t)) w ∙ ap (take 64) (drop-drop 64 (64 * i) (padded m) ∙ ap (λ (t : ℕ). drop t (padded m)) k))
      c')

-- the rest of a message after its whole blocks, as the program lends it, and its padding, in a buffer of 128 bytes
module _ (m b : List ℕ) (end : ℕ) (e : end ≡ length m % 64 + 9 + zero_bytes (length m))
    (q : b ≡ (take (length m - 64 * (length m / 64)) (drop (64 * (length m / 64)) m) ++ padding (length m)) ++ replicate (128 - end) 0)
  where
    rest : take (length m - 64 * (length m / 64)) (drop (64 * (length m / 64)) m) ≡ drop (64 * (length m / 64)) m
    rest = take_all (length m - 64 * (length m / 64)) (drop (64 * (length m / 64)) m) (simp length-drop (omega arith))

    rest_length : length (drop (64 * (length m / 64)) m) ≡ length m % 64
    rest_length = length-drop (64 * (length m / 64)) m ∙ omega arith

    pub buffer_front : take end b ≡ drop (64 * (length m / 64)) m ++ padding (length m)
    buffer_front = padded_rest_take (drop (64 * (length m / 64)) m) (length m) end rest_length e b (rw rest at q)
