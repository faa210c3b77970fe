-- The padding: what the stores behind the rest of a message leave, and the lengths.
-- Assumes nothing.
use Rattle.std.proofs.Common.{◌≡◌, ℕ, suc, ◌+◌, ◌-◌, ◌*◌, ◌/◌, ◌%◌, ◌^◌, List, ◌∷◌, ◌++◌, length, take, drop, set, replicate, sym, refl, ap, ◌∙◌, append_assoc, arith, length-append, take_at}
use lib.ListN.{length-replicate, replicate-append-replicate}
use lib.Seq.{set_at}
use borrow.Rule.Slice.PartMut.{put_mid}
use Rattle.std.proofs.lemmas.List.{drop_at, drop-replicate}
use Rattle.std.specs.Int.{to_be_bytes, w64}
use Rattle.sha256.specs.Bytes.{bytes8}
use Rattle.sha256.specs.Padding.{zero_bytes, padding, padded}

padding_length : (n : ℕ) → length (padding n) ≡ 9 + zero_bytes n
unfolding padding
padding_length n =
    let z = zero_bytes n in
    let e : suc z + 8 ≡ 9 + z = omega arith in
    length-append (0x80 ∷ replicate z 0) (bytes8 (8 * n)) ∙ ap (λ (k : ℕ). suc k + 8) (length-replicate z 0) ∙ e

pub padded_length : (m : List ℕ) → length (padded m) ≡ length m + (9 + zero_bytes (length m))
unfolding padded
padded_length m = length-append m (padding (length m)) ∙ ap (λ (k : ℕ). length m + k) (padding_length (length m))

-- the length in bits, as the library writes a number of 64 bits
length_bytes : (x : ℕ) → to_be_bytes w64 x ≡ bytes8 x
length_bytes x =
    let e₁ : x / 2 ^ 56 % 256 ≡ x / 2 ^ 32 / 2 ^ 24 % 256 = omega arith in
    let e₂ : x / 2 ^ 48 % 256 ≡ x / 2 ^ 32 / 2 ^ 16 % 256 = omega arith in
    let e₃ : x / 2 ^ 40 % 256 ≡ x / 2 ^ 32 / 2 ^ 8 % 256 = omega arith in
    rw (e₁, e₂, e₃)

module _ (rest : List ℕ) (n end : ℕ) (r : length rest ≡ n % 64) (e : end ≡ n % 64 + 9 + zero_bytes n) where
  front : List ℕ
  front = rest ++ (128 ∷ replicate (zero_bytes n) 0)

  front_length : length front ≡ end - 8
  unfolding front
  front_length = length-append rest (128 ∷ replicate (zero_bytes n) 0) ∙ omega (arith, length-replicate {A = ℕ} (zero_bytes n) 0)

  -- behind the rest the byte 0x80, the padding's zeros, and those that the length is stored over
  marked : (b : List ℕ) → b ≡ rest ++ replicate (128 - length rest) 0 → set b (length rest) 128 ≡ front ++ replicate (8 + (128 - end)) 0
  unfolding front
  marked b q =
      let z = zero_bytes n in
      let e₁ : 128 - length rest ≡ suc (127 - length rest) = omega arith in
      let e₂ : 127 - length rest ≡ z + (8 + (128 - end)) = omega arith in
      rw (q, e₁)
      (set_at rest 0 (replicate (127 - length rest) 0) 128 (length rest) refl
      ∙ ap (λ (x : List ℕ). rest ++ (128 ∷ x)) (ap (λ (k : ℕ). replicate k 0) e₂ ∙ sym (replicate-append-replicate z (8 + (128 - end)) 0))
      ∙ sym (append_assoc rest (128 ∷ replicate z 0) (replicate (8 + (128 - end)) 0)))

  pub padded_rest_law : (b s : List ℕ) → b ≡ rest ++ replicate (128 - length rest) 0 → s ≡ to_be_bytes w64 (8 * n)
      → put_mid (end - 8) (end - (end - 8)) (set b (length rest) 128) s ≡ (rest ++ padding n) ++ replicate (128 - end) 0
  unfolding padding front
  padded_rest_law b s q w =
      let zs : List ℕ = replicate (zero_bytes n) 0 in
      let over : List ℕ = replicate (8 + (128 - end)) 0 in
      let left : List ℕ = replicate (128 - end) 0 in
      let l : length (rest ++ (128 ∷ zs)) ≡ end - 8 = front_length in
      let k : end - (end - 8) ≡ 8 = omega arith in
      let d : drop 8 over ≡ left = drop-replicate 8 (8 + (128 - end)) 0 ∙ ap (λ (m : ℕ). replicate m 0) (omega arith) in
      let number : List ℕ = bytes8 (8 * n) in
      let v : s ≡ number = w ∙ length_bytes (8 * n) in
      rw (marked b q, k, take_at (rest ++ (128 ∷ zs)) over (end - 8) l, drop_at (rest ++ (128 ∷ zs)) over (end - 8) l, d, v)
      (append_assoc rest (128 ∷ zs) (number ++ left)
      ∙ ap (λ (t : List ℕ). rest ++ (128 ∷ t)) (sym (append_assoc zs number left))
      ∙ sym (append_assoc rest (128 ∷ (zs ++ number)) left))

  ends : length (rest ++ padding n) ≡ end
  ends = length-append rest (padding n) ∙ omega (arith, padding_length n)

  pub padded_rest_take : (b : List ℕ) → b ≡ (rest ++ padding n) ++ replicate (128 - end) 0 → take end b ≡ rest ++ padding n
  padded_rest_take b q = ap (take end) q ∙ take_at (rest ++ padding n) (replicate (128 - end) 0) end ends
