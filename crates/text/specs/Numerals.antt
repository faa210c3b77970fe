-- Numbers as text: any number in digits without leading zeros, and bytes in lower-case hexadecimal.
use Rattle.std.specs.Prelude.{ℕ, zero, suc, ◌+◌, ◌/◌, ◌%◌, ◌^◌, List, [], ◌∷◌, ◌++◌, ltb}
use Rattle.octets.specs.Choice.{◌then◌otherwise◌}
use Rattle.octets.specs.Part.{joined}

-- the character of a digit: 0 to 9, a to f
unfoldable pub digit : ℕ → ℕ
digit n = ltb n 10 then 48 + n otherwise 87 + n

-- the digits of x, the highest first: its own where it is one digit, else those of x / base and one more. `left` only ends the recursion
unfoldable pub numeral_within : ℕ → ℕ → ℕ → List ℕ
numeral_within base zero x = digit x ∷ []
numeral_within base (suc left) x =
    let more : List ℕ = numeral_within base left (x / base) ++ (digit (x % base) ∷ []) in
    ltb x base then digit x ∷ [] otherwise more

-- x in a base from 2 to 16. `left` doesn't run out: x has at most x digits (NumeralLaws, numeral_one and numeral_more)
unfoldable pub numeral : ℕ → ℕ → List ℕ
numeral base x = numeral_within base x x

abbrev pub decimal : ℕ → List ℕ
decimal x = numeral 10 x

-- how many digits a number of 64 bits has at most, in decimal
abbrev pub most_digits : ℕ
most_digits = 20

-- bytes and lengths of packets are short numbers, of three digits at most
abbrev pub short_digits : ℕ
short_digits = 3

abbrev pub short_limit : ℕ
short_limit = 10 ^ short_digits

-- a byte is two digits
abbrev pub byte_digits : ℕ
byte_digits = 2

unfoldable pub hexadecimal_byte : ℕ → List ℕ
hexadecimal_byte x = digit (x / 16) ∷ digit (x % 16) ∷ []

unfoldable pub hexadecimal : List ℕ → List ℕ
hexadecimal xs = joined hexadecimal_byte xs
