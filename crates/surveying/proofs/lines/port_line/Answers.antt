use Rattle.std.proofs.Common.{ℕ, List, [], ◌∷◌, ap, ◌∙◌, arith}
use Rattle.text.specs.Numerals.{decimal}
use Rattle.text.specs.Words.{words_line}
use Rattle.text.specs.Text.{text_of}
use Rattle.text.proofs.WordLaws.{words_appended, line_appended}
use Rattle.surveying.specs.Words.{port_word, packets_word, in_word, out_word, dropped_word}
use Rattle.surveying.specs.Lines.{fraction_word}
use Rattle.surveying.specs.declared.Fraction.{Fraction}
use Rattle.surveying.proofs.LineLaws.{port_fit}
use Rattle.surveying.proofs.lines.port_line.Goals as goal

pub returns : goal.returns
returns c =
    let a = c.args in
    let f : Fraction = c.share.result in
    let words : List (List ℕ) =
    decimal a.port ∷ packets_word ∷ decimal a.packets ∷ in_word ∷ decimal a.received ∷ out_word ∷ decimal a.sent ∷ dropped_word ∷ fraction_word f ∷ [] in
    let known = c.ranges in
    let shared = c.share in
    let fits = port_fit a.port a.packets a.received a.sent f (omega arith) (omega arith) (omega arith) (omega arith) (omega arith) (omega arith) in
    rw (
      c.with_character.ensures,
      c.with_fraction.ensures,
      c.with_word-left.ensures,
      c.with_named-2.ensures,
      c.with_named-came.ensures,
      c.with_named.ensures,
      c.with_number-named.ensures,
      c.with_text.ensures,
      c.empty.ensures,
      words_appended,
      words_appended,
      words_appended,
      words_appended,
      words_appended,
    )
    (line_appended port_word words fits ∙ ap
    (λ (g : Fraction). text_of
    (words_line
    (port_word ∷ decimal a.port ∷ packets_word ∷ decimal a.packets ∷ in_word ∷ decimal a.received ∷ out_word ∷ decimal a.sent ∷ dropped_word ∷
    fraction_word g ∷ [])))
    c.share.ensures)
