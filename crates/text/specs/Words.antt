-- Words in a line.
use Rattle.std.specs.Prelude.{ℕ, List, [], ◌∷◌, ◌++◌}
use Rattle.octets.specs.Part.{joined}
use Rattle.text.specs.Numerals.{decimal}

-- the space between words, and the line's end
abbrev pub space : ℕ
space = 32

abbrev pub newline : ℕ
newline = 10

-- words, each behind a space
unfoldable pub spaced : List (List ℕ) → List ℕ
spaced words = joined (λ w. space ∷ w) words

-- words with a space between each two, and the line's end
unfoldable pub words_line : List (List ℕ) → List ℕ
words_line [] = newline ∷ []
words_line (w ∷ words) = w ++ (spaced words ++ (newline ∷ []))

-- refused
abbrev pub refused_word : List ℕ
refused_word = 114 ∷ 101 ∷ 102 ∷ 117 ∷ 115 ∷ 101 ∷ 100 ∷ []

-- `refused` and the number
abbrev pub refused_words : ℕ → List (List ℕ)
refused_words refusal = refused_word ∷ decimal refusal ∷ []
