use mathlib.Core.Path.{sym, ◌∙◌}
use Rattle.octets.proofs.Choice.{then_true, then_false}
use Rattle.haskumye.proofs.questions.haskumye_signature_matters.Goals as goal

pub returns-in-Ok-true : goal.returns-in-Ok-true
returns-in-Ok-true c = sym (then_true 255 0 c.in-Ok-true.field-0-test) ∙ c.in-Ok-true.ensures

pub returns-in-Ok-false : goal.returns-in-Ok-false
returns-in-Ok-false c = sym (then_false 255 0 c.in-Ok-false.field-0-test) ∙ c.in-Ok-false.ensures
