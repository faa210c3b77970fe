use mathlib.Core.Path.{refl}
use lib.Dec.{lit≤}
use native.Mathlib.Omega.{arith}
use Rattle.text.specs.Words.{refused_word}
use Rattle.text.proofs.WordLaws.{words_appended}
use Rattle.replaying.specs.Lines.{answer_words}
use Rattle.replaying.proofs.LineLaws.{number_short}
use Rattle.replaying.proofs.lines.with_answer.Goals as goal

pub returns-in-Refused : goal.returns-in-Refused
unfolding answer_words
returns-in-Refused c =
    rw c.in-Refused.is (
      rw (c.with_number.ensures, c.from.ensures, c.with_word.ensures, words_appended) refl,
      number_short refused_word (lit≤ tt) _ (omega arith),
    )

pub returns-in-Judged : goal.returns-in-Judged
unfolding answer_words
returns-in-Judged c = rw c.in-Judged.is c.with_verdict.ensures
