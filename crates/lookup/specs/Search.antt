-- The tests of a record's bytes that a search makes, and the lowest record that passes one.
-- For the contracts of helpers: not part of what a reader must believe.
use Rattle.std.specs.Prelude.{ℕ, ◌+◌, ◌-◌, ◌*◌, Bool, not, Option, Some, None, List, eqb, ltb, length, get_or}
use Rattle.octets.specs.Index.{◌and◌, all_below, first}
use Rattle.octets.specs.Choice.{◌then◌otherwise◌, same}
use Rattle.octets.specs.Part.{part}
use Rattle.octets.specs.BigEndian.{number, word, word_width}
use Rattle.numbers.specs.Numbers.{live}
use Rattle.tables.specs.Places.{time_width}
use Rattle.tables.specs.Layout.{record_at}

-- the last eight bytes of a key, as one number
unfoldable pub last_word : List ℕ → ℕ
last_word key = word (part key (length key - word_width) word_width)

-- none of n words of eight bytes that stand `width` apart, from `at` on, is x
unfoldable pub none_is : ℕ → ℕ → ℕ → ℕ → List ℕ → Bool
none_is x at width n t = all_below (λ i. not (eqb (word (part t (at + width * i) word_width)) x)) n

-- the record b is used
unfoldable pub is_used : List ℕ → Bool
is_used b = not (eqb (get_or b 0 0) 0)

-- it is used, and has the key behind its mark
unfoldable pub has_key : List ℕ → List ℕ → Bool
has_key key b = is_used b and same (part b 1 (length key)) key

-- it is used, and its expiry, which stands at a place of the record, is to come
unfoldable pub is_live : ℕ → ℕ → List ℕ → Bool
is_live expiry_at clock b = is_used b and live clock (number (part b expiry_at time_width))

-- both
unfoldable pub is_live_of : List ℕ → ℕ → ℕ → List ℕ → Bool
is_live_of key expiry_at clock b = has_key key b and live clock (number (part b expiry_at time_width))

-- the lowest of n records, each `width` wide, from `at` on, that passes the test, or n
unfoldable pub lowest_record : (List ℕ → Bool) → ℕ → ℕ → ℕ → List ℕ → ℕ
lowest_record test at width n t = first (λ i. test (record_at at width t i)) n

-- how many of n fours of records, each `width` wide, stand before the first that passes the test of a four, or n
abbrev pub fours_before : (List ℕ → Bool) → ℕ → ℕ → List ℕ → ℕ
fours_before four width n t = first (λ g. four (record_at 0 (width * 4) t g)) n

-- the place at which a search of n records ended, if it found one: without, it ends at n
unfoldable pub found : ℕ → ℕ → Option ℕ
found n place = ltb place n then Some place otherwise None
