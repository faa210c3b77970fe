use Rattle.std.proofs.Common.{ℕ, ◌≤◌, ◌<◌, [], ◌∷◌, length, arith, lit≤}
use Rattle.text.specs.Numerals.{decimal, short_digits, short_limit}
use Rattle.text.specs.Words.{refused_word}
use Rattle.text.specs.Text.{text_size}
use Rattle.text.proofs.NumeralLaws.{numeral_most}
use Rattle.text.proofs.WordLaws.{line_most, words_appended, line_appended}
use Rattle.replay.specs.Line.{tables_word, tables_refused}
use Rattle.replay.proofs.tables_refused.Goals as goal

fits : (n : ℕ) → n < short_limit → length (tables_refused n) ≤ text_size
fits n small =
    omega (
      arith,
      line_most tables_word (refused_word ∷ decimal n ∷ []) (length tables_word ∷ length refused_word ∷ short_digits ∷ [])
          (lit≤ tt, (lit≤ tt, (numeral_most 10 (lit≤ tt) short_digits n (lit≤ tt) small, tt))),
    )

pub returns : goal.returns
returns c =
    let n = c.args.refusal in
    rw (
      c.with_character.ensures,
      c.with_number.ensures,
      c.from.ensures,
      c.with_word-start.ensures,
      c.with_text.ensures,
      c.empty.ensures,
      words_appended,
    )
    (line_appended tables_word (refused_word ∷ decimal n ∷ []) (fits n (omega arith)))
