-- The line for a file that is no saved relay.
use Rattle.std.specs.Prelude.{ℕ, List, [], ◌∷◌}
use Rattle.text.specs.Words.{words_line, refused_words}

-- tables
abbrev pub tables_word : List ℕ
tables_word = 116 ∷ 97 ∷ 98 ∷ 108 ∷ 101 ∷ 115 ∷ []

-- `tables refused` and the number
abbrev pub tables_refused : ℕ → List ℕ
tables_refused refusal = words_line (tables_word ∷ refused_words refusal)
