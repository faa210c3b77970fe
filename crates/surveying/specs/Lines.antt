-- Document 02, Wish 14: the lines of the text, each with its end.
use Rattle.std.specs.Prelude.{ℕ, List, [], ◌∷◌, ◌++◌}
use Rattle.text.specs.Numerals.{decimal}
use Rattle.text.specs.Words.{words_line, refused_words}
use Rattle.surveying.specs.Words.{survey_word, settings_word, recording_word, port_word, packets_word, in_word, out_word, dropped_word, reason_word, stroke}
use Rattle.surveying.specs.Fraction.{share}
use Rattle.surveying.specs.declared.Fraction.{Fraction}

-- "The text begins with the line `survey`"
abbrev pub survey_line : List ℕ
survey_line = words_line (survey_word ∷ [])

-- a settings file that is refused: `settings refused` and its number
abbrev pub settings_line : ℕ → List ℕ
settings_line refusal = words_line (settings_word ∷ refused_words refusal)

-- "a line such as `recording 2 refused 21` for each refused one"
abbrev pub recording_line : ℕ → ℕ → List ℕ
recording_line number refusal = words_line (recording_word ∷ decimal number ∷ refused_words refusal)

unfoldable pub fraction_word : Fraction → List ℕ
fraction_word f = decimal f.above ++ (stroke ∷ decimal f.below)

-- "one line for each of the sixteen ports, rising, as `port 3 packets 10 in 900 out 450 dropped 1/5`"
abbrev pub port_line : (port packets bytes_in bytes_out dropped : ℕ) → List ℕ
port_line port packets bytes_in bytes_out dropped =
    words_line
    (port_word ∷ decimal port ∷ packets_word ∷ decimal packets ∷ in_word ∷ decimal bytes_in ∷ out_word ∷ decimal bytes_out ∷ dropped_word ∷
    fraction_word (share dropped packets) ∷ [])

-- "one for each test .., as `reason 2 2`"
abbrev pub reason_line : ℕ → ℕ → List ℕ
reason_line test drops = words_line (reason_word ∷ decimal test ∷ decimal drops ∷ [])
