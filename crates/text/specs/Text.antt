-- A text of fixed size as it grows.
use Rattle.std.specs.Prelude.{ℕ, ◌+◌, ◌-◌, List, ◌++◌, length, take, replicate}
use Rattle.octets.specs.Part.{patch}
use Rattle.text.specs.declared.Text.{Text}

abbrev pub text_size : ℕ
text_size = 160

-- the characters at the start of a text's bytes, zeros behind them. No value of the code is such a text of more than 160
unfoldable pub text_of : List ℕ → Text
text_of x = record { bytes = x ++ replicate (text_size - length x) 0; length = length x }

-- what there is still room for
unfoldable pub fitting : Text → List ℕ → List ℕ
fitting text more = take (length text.bytes - text.length) more

-- the text with more at its end, as far as there is room
unfoldable pub appended : Text → List ℕ → Text
appended text more =
    record { bytes = patch text.bytes text.length (fitting text more); length = text.length + length (fitting text more) }
