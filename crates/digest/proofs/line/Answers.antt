use Rattle.std.proofs.Common.{◌≡◌, ◌*◌, ◌≤◌, [], ◌∷◌, length, sym, ap, ◌∙◌, arith, rules}
use Rattle.octets.specs.Choice.{◌then◌otherwise◌}
use Rattle.octets.specs.Part.{joined}
use Rattle.text.specs.Numerals.{hexadecimal, byte_digits}
use Rattle.text.specs.Words.{newline, spaced, words_line}
use Rattle.text.specs.Text.{appended, text_size}
use Rattle.text.specs.declared.Text.{Text}
use Rattle.text.proofs.NumeralLaws.{hexadecimal_length}
use Rattle.text.proofs.TextLaws.{appended_none}
use Rattle.text.proofs.WordLaws.{line_most, line_appended}
use Rattle.digest.specs.Line.{digest_line}
use Rattle.digest.proofs.line.Goals as goal

pub returns-in-None : goal.returns-in-None
unfolding digest_line ◌then◌otherwise◌
returns-in-None c = rw (c.in-None.is) (rw c.number.ensures at c.refused_line.ensures)

pub returns-in-Some : goal.returns-in-Some
unfolding digest_line ◌then◌otherwise◌ spaced joined
returns-in-Some c =
    let d = c.in-Some.bytes in
    let wide : length d ≡ 32 = search rules in
    let fit : length (words_line (hexadecimal d ∷ [])) ≤ text_size =
    omega (arith, line_most (hexadecimal d) [] (byte_digits * 32 ∷ []) (omega (arith, hexadecimal_length d), tt)) in
    rw (c.in-Some.is, c.with_character.ensures, c.with_hexadecimal.ensures, c.empty.ensures)
    (ap (λ (t : Text). appended t (newline ∷ [])) (sym (appended_none _)) ∙ line_appended (hexadecimal d) [] fit)
