use mathlib.Core.Path.{sym, ◌∙◌}
use Rattle.octets.specs.Choice.{◌then◌otherwise◌}
use Rattle.rules.specs.Answers.{tells_value}
use Rattle.text.proofs.WordLaws.{words_appended}
use Rattle.replaying.specs.Lines.{reason_words}
use Rattle.replaying.proofs.reasons.with_reason.Goals as goal

pub returns-then-tells_value : goal.returns-then-tells_value
unfolding reason_words tells_value ◌then◌otherwise◌
returns-then-tells_value c =
    rw (sym c.tells_value.ensures ∙ c.if-tells_value.true) (c.with_number.ensures ∙ rw c.with_test-tested.ensures (words_appended _ _ _))

pub returns : goal.returns
unfolding reason_words tells_value ◌then◌otherwise◌
returns c = rw (sym c.tells_value.ensures ∙ c.if-tells_value.false) c.with_test-tested.ensures
