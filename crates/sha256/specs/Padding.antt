-- FIPS 180-4, sections 5.1.1 and 5.2.1: padding a message of whole bytes, and its blocks.
-- Assumes nothing.
use Rattle.std.specs.Prelude.{◌≡◌, ℕ, ◌+◌, ◌-◌, ◌*◌, ◌%◌, ◌<◌, List, ◌∷◌, ◌++◌, length, take, drop, replicate}
use Rattle.std.proofs.Common.{arith}
use Rattle.sha256.specs.Bytes.{bytes8}

-- 5.1.1: how many bytes of zeros follow the byte that begins with the bit 1, for a message of n bytes
abbrev pub zero_bytes : ℕ → ℕ
zero_bytes n = (119 - n % 64) % 64

-- it is the least number with 8 bytes left in the last block (l + 1 + k ≡ 448 mod 512, in bits)
zero_bytes_fill : (n : ℕ) → (n + 1 + zero_bytes n) % 64 ≡ 56
zero_bytes_fill n = omega arith

zero_bytes_least : (n : ℕ) → zero_bytes n < 64
zero_bytes_least n = omega arith

-- the bit 1, the zeros, and the length in bits as 64 bits
unfoldable pub padding : ℕ → List ℕ
padding n = (0x80 ∷ replicate (zero_bytes n) 0) ++ bytes8 (8 * n)

unfoldable pub padded : List ℕ → List ℕ
padded m = m ++ padding (length m)

-- 5.2.1: block i of a padded message, from 0 on, has 512 bits
abbrev pub block : List ℕ → ℕ → List ℕ
block p i = take 64 (drop (64 * i) p)
