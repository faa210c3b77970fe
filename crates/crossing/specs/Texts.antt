-- An answer's text, from its number: the words of a replay's line behind its count.
use Rattle.std.specs.Prelude.{ℕ, List, [], ◌∷◌, ◌++◌, eqb}
use Rattle.octets.specs.Choice.{◌then◌otherwise◌}
use Rattle.numbers.specs.Numbers.{port_count}
use Rattle.text.specs.Numerals.{decimal}
use Rattle.text.specs.Words.{spaced, refused_words}
use Rattle.text.specs.Text.{text_of}
use Rattle.text.specs.declared.Text.{Text}
use Rattle.replaying.specs.Words.{forward_word, drop_word, deliver_word, spread_word, kept_word}
use Rattle.replaying.specs.Lines.{numbers_of, reason_words, ports_below}
use Rattle.crossing.specs.Bits.{kind_in, detail_in, ports_in, clause_in, value_in}

-- words with a space between each two
unfoldable pub words_text : List (List ℕ) → List ℕ
words_text [] = []
words_text (w ∷ words) = w ++ spaced words

-- by the number's bits. A number whose kind is no answer's has no words
unfoldable pub number_words : ℕ → List (List ℕ)
number_words n =
    eqb (kind_in n) 0 then refused_words (detail_in n) otherwise
    eqb (kind_in n) 1 then drop_word ∷ reason_words (numbers_of (detail_in n) (clause_in n) (value_in n)) otherwise
    eqb (kind_in n) 2 then deliver_word ∷ [] otherwise
    eqb (kind_in n) 3 then forward_word ∷ decimal (ports_in n) ∷ [] otherwise
    eqb (kind_in n) 4 then spread_word ∷ ports_below (ports_in n) port_count otherwise
    eqb (kind_in n) 5 then kept_word ∷ [] otherwise
    []

unfoldable pub number_text : ℕ → Text
number_text n = text_of (words_text (number_words n))
