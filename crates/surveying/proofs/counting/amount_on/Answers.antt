use Rattle.std.proofs.Common.{sym, ◌∙◌}
use Rattle.octets.specs.Choice.{◌then◌otherwise◌}
use Rattle.surveying.proofs.counting.amount_on.Goals as goal

pub returns-then-accepted_on : goal.returns-then-accepted_on
unfolding ◌then◌otherwise◌
returns-then-accepted_on c = rw (sym c.accepted_on.ensures ∙ c.if-accepted_on.true)

pub returns-else-accepted_on : goal.returns-else-accepted_on
unfolding ◌then◌otherwise◌
returns-else-accepted_on c = rw (sym c.accepted_on.ensures ∙ c.if-accepted_on.false)
