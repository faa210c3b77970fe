use Rattle.text.proofs.WordLaws.{words_appended}
use Rattle.line.proofs.fields.with_payload.Goals as goal

pub returns : goal.returns
returns c =
    rw (c.with_number.ensures, c.with_word-2.ensures, c.with_bytes-marked.ensures, c.with_word.ensures)
    (simp words_appended)
