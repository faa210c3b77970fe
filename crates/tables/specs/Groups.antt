-- Records tested in groups, and four at once: ways to test a section fast. They change nothing of what is tested.
-- For the contracts of helpers: not part of what a reader must believe.
use Rattle.std.specs.Prelude.{ℕ, zero, suc, ◌≡◌, ◌≤◌, ◌+◌, ◌*◌, ◌/◌, ◌%◌, ◌^◌, Bool, true, List, eqb, ltb, length, get_or}
use Rattle.std.specs.Int.Bits.{bit_or}
use Rattle.octets.specs.Bytes.{Bytes}
use Rattle.octets.specs.Index.{◌and◌, all_below, zeros}
use Rattle.octets.specs.Choice.{◌or◌}
use Rattle.octets.specs.Part.{part}
use Rattle.octets.specs.BigEndian.{number, word_width}
use Rattle.numbers.specs.Numbers.{clock_limit}
use Rattle.tables.specs.Places.{time_width}
use Rattle.tables.specs.Fields.{return_arrival_at, hash_expiry_at}

abbrev pub group_size : ℕ
group_size = 128

abbrev pub path_group_size : ℕ
path_group_size = 8

-- the OR of f 0, .., f (n - 1)
unfoldable pub together : (ℕ → ℕ) → ℕ → ℕ
together f zero = 0
together f (suc n) = bit_or (together f n) (f n)

-- ---- records that are plain: used, with ports below 16 and times below 2^40. Most used records are
-- eight bytes of a return record, as one number: its two ports, and the first six of its time
unfoldable pub ways_plain : ℕ → Bool
ways_plain x = ltb x (2 ^ 60) and ltb (x % 2 ^ 56) (2 ^ 52) and ltb (x % 2 ^ 48) (2 ^ 24)

unfoldable pub return_plain : List ℕ → Bool
return_plain b = eqb (get_or b 0 0) 1 and ways_plain (number (part b return_arrival_at word_width))

unfoldable pub hash_plain : List ℕ → Bool
hash_plain b = eqb (get_or b 0 0) 1 and ltb (number (part b hash_expiry_at time_width)) clock_limit

-- the same of a record whose eight bytes from a place on pass a test
unfoldable pub plain : ℕ → (ℕ → Bool) → List ℕ → Bool
plain at small b = eqb (get_or b 0 0) 1 and small (number (part b at word_width))

-- what is left to test of a record whose ports and times are plain, as those of a record of zeros are
unfoldable pub used_or_zero : List ℕ → Bool
used_or_zero b = eqb (get_or b 0 0) 1 or zeros (length b) b

-- ---- what testing a ring by groups takes of its records: fine is row 7, and small is the test of a plain one's eight bytes
pub record Grouped (count width word_at from : ℕ) (fine : List ℕ → Bool) (small : ℕ → Bool) : Type 0 where
  pub whole : count ≡ group_size * (count / group_size)
  pub few : count ≤ 2 ^ 10
  pub wide : 16 ≤ width
  pub narrow : width ≤ 2 ^ 6
  pub within : word_at + word_width ≤ width
  pub near : from ≤ 16
  pub unused : (b : List ℕ) → zeros width b ≡ true → fine b ≡ true
  pub at_once : (f : ℕ → ℕ) (n : ℕ) → small (together f n) ≡ all_below (λ k. small (f k)) n
  pub left : (b : List ℕ) → Bytes b → length b ≡ width → small (number (part b word_at word_width)) ≡ true → fine b ≡ used_or_zero b
