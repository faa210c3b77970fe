use mathlib.Core.Path.{refl, ◌∙◌}
use lib.Dec.{lit≤}
use native.Mathlib.Omega.{arith}
use Rattle.text.proofs.WordLaws.{words_appended}
use Rattle.replaying.specs.Words.{forward_word, deliver_word, kept_word}
use Rattle.replaying.specs.Lines.{verdict_words}
use Rattle.replaying.proofs.LineLaws.{ports_short, word_short, number_short, drop_words}
use Rattle.replaying.proofs.lines.with_verdict.Goals as goal

pub returns-in-Drop : goal.returns-in-Drop
unfolding verdict_words
returns-in-Drop c =
    let value = c.reason_value in
    let clause = c.reason_clause in
    let test = c.reason_number in
    rw c.in-Drop.is
    (drop_words test.result clause.result value.result (omega arith) (omega arith) (omega arith) _ test.ensures clause.ensures value.ensures
    _ _ (c.with_reason.ensures ∙ rw c.with_word.ensures (words_appended _ _ _)))

pub returns-in-Deliver : goal.returns-in-Deliver
unfolding verdict_words
returns-in-Deliver c = rw c.in-Deliver.is (c.with_word-in-Deliver.ensures, word_short deliver_word (lit≤ tt))

pub returns-in-Forward : goal.returns-in-Forward
unfolding verdict_words
returns-in-Forward c =
    rw c.in-Forward.is
    (rw (c.with_number.ensures, c.from.ensures, c.with_word-in-Forward.ensures, words_appended) refl, number_short forward_word (lit≤ tt) _ (omega arith))

pub returns-in-Spread : goal.returns-in-Spread
unfolding verdict_words
returns-in-Spread c =
    rw c.in-Spread.is
    (rw (c.with_ports.ensures, c.with_word-in-Spread.ensures, words_appended) refl, ports_short _)

pub returns-in-Kept : goal.returns-in-Kept
unfolding verdict_words
returns-in-Kept c = rw c.in-Kept.is (c.with_word-in-Kept.ensures, word_short kept_word (lit≤ tt))
