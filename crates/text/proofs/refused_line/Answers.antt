use mathlib.Core.List.{[], ◌∷◌}
use Rattle.text.specs.Numerals.{decimal}
use Rattle.text.proofs.WordLaws.{line_appended, refused_fit}
use Rattle.text.specs.Words.{refused_word}
use native.Mathlib.Omega.{arith}
use Rattle.text.proofs.refused_line.Goals as goal

pub returns : goal.returns
returns c =
    let n = c.args.refusal in
    rw (c.with_character.ensures, c.with_number.ensures, c.with_text-start.ensures, c.empty.ensures, c.from.ensures)
    (line_appended refused_word (decimal n ∷ []) (refused_fit n (omega arith)))
