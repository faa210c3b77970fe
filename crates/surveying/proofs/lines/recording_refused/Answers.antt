use Rattle.std.proofs.Common.{[], ◌∷◌, arith}
use Rattle.text.specs.Numerals.{decimal}
use Rattle.text.specs.Words.{refused_word}
use Rattle.text.proofs.WordLaws.{words_appended, line_appended}
use Rattle.surveying.specs.Words.{recording_word}
use Rattle.surveying.proofs.LineLaws.{recording_fit}
use Rattle.surveying.proofs.lines.recording_refused.Goals as goal

pub returns : goal.returns
returns c =
    let a = c.args in
    rw (
      c.with_character.ensures,
      c.with_number-refused.ensures,
      c.from.ensures,
      c.with_word.ensures,
      c.with_number-counted.ensures,
      c.with_text.ensures,
      c.empty.ensures,
      words_appended,
      words_appended,
    )
    (line_appended recording_word (decimal a.number ∷ refused_word ∷ decimal a.refusal ∷ [])
    (recording_fit a.number a.refusal (omega arith) (omega arith)))
