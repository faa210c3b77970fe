use Rattle.text.proofs.WordLaws.{words_appended}
use Rattle.line.proofs.fields.with_way.Goals as goal

pub returns : goal.returns
returns c =
    rw (c.with_bytes.ensures, c.with_word-2.ensures, c.with_number-sent.ensures, c.from.ensures, c.with_word.ensures)
    (simp words_appended)
