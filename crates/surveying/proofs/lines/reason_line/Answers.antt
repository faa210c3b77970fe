use Rattle.std.proofs.Common.{[], ◌∷◌, arith}
use Rattle.text.specs.Numerals.{decimal}
use Rattle.text.proofs.WordLaws.{words_appended, line_appended}
use Rattle.surveying.specs.Words.{reason_word}
use Rattle.surveying.proofs.LineLaws.{reason_fit}
use Rattle.surveying.proofs.lines.reason_line.Goals as goal

pub returns : goal.returns
returns c =
    let a = c.args in
    rw (
      c.with_character.ensures,
      c.with_number.ensures,
      c.with_number-named.ensures,
      c.with_text.ensures,
      c.empty.ensures,
      words_appended,
    )
    (line_appended reason_word (decimal a.test ∷ decimal a.drops ∷ []) (reason_fit a.test a.drops (omega arith) (omega arith)))
