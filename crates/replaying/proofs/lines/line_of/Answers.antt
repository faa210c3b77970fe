use native.Mathlib.Omega.{arith}
use Rattle.replaying.proofs.LineLaws.{line_made}
use Rattle.replaying.proofs.lines.line_of.Goals as goal

pub returns : goal.returns
returns c =
    let a = c.args in
    rw (c.with_character.ensures, c.with_answer.ensures.0, c.with_decimal-counted.ensures, c.empty.ensures)
    (line_made a.number a.answer (omega arith) c.with_answer.ensures.1)
