-- FIPS 180-4, section 3.1: words and 64-bit numbers as bytes, the most significant first.
-- Assumes nothing.
use Rattle.std.specs.Prelude.{ℕ, ◌+◌, ◌*◌, ◌/◌, ◌%◌, ◌^◌, List, [], ◌∷◌, ◌++◌, slice_index}

-- the word whose four bytes stand at place i of a list of bytes
abbrev pub word_at : List ℕ → ℕ → ℕ
word_at b i = slice_index b i * 2 ^ 24 + slice_index b (i + 1) * 2 ^ 16 + slice_index b (i + 2) * 2 ^ 8 + slice_index b (i + 3)

-- the four bytes of a word
abbrev pub bytes4 : ℕ → List ℕ
bytes4 x = x / 2 ^ 24 % 256 ∷ x / 2 ^ 16 % 256 ∷ x / 2 ^ 8 % 256 ∷ x % 256 ∷ []

-- the eight bytes of a 64-bit number
abbrev pub bytes8 : ℕ → List ℕ
bytes8 x = bytes4 (x / 2 ^ 32) ++ bytes4 x
