use Rattle.std.proofs.Common.{[], ◌∷◌, arith}
use Rattle.text.specs.Numerals.{decimal}
use Rattle.text.specs.Words.{refused_word}
use Rattle.text.proofs.WordLaws.{words_appended, line_appended}
use Rattle.surveying.specs.Words.{settings_word}
use Rattle.surveying.proofs.LineLaws.{settings_fit}
use Rattle.surveying.proofs.lines.settings_refused.Goals as goal

pub returns : goal.returns
returns c =
    let n = c.args.refusal in
    rw (
      c.with_character.ensures,
      c.with_number.ensures,
      c.from.ensures,
      c.with_word-start.ensures,
      c.with_text.ensures,
      c.empty.ensures,
      words_appended,
    )
    (line_appended settings_word (refused_word ∷ decimal n ∷ []) (settings_fit n (omega arith)))
