use Rattle.std.proofs.Common.{sym, ◌∙◌, eq-eqb, ne_eqb}
use Rattle.octets.specs.Choice.{◌then◌otherwise◌}
use Rattle.surveying.specs.Counts.{sent_by}
use Rattle.surveying.proofs.counting.sent_by.Goals as goal

pub returns-in-Forward : goal.returns-in-Forward
unfolding sent_by ◌then◌otherwise◌
returns-in-Forward c = rw (c.in-Forward.is, eq-eqb _ _ (sym c.from.ensures ∙ c.if-from-port.true))

pub returns-in-Spread : goal.returns-in-Spread
unfolding sent_by ◌then◌otherwise◌
returns-in-Spread c = rw (c.in-Spread.is, sym c.in_set.ensures ∙ c.if-in_set.true)

pub returns-in_default : goal.returns-in_default
unfolding sent_by ◌then◌otherwise◌
returns-in_default c = rw (c.in-Forward.is, ne_eqb _ _ (λ q. c.if-from-port.false (c.from.ensures ∙ q)))

pub returns-in_default-2 : goal.returns-in_default-2
unfolding sent_by ◌then◌otherwise◌
returns-in_default-2 c = rw (c.in-Spread.is, sym c.in_set.ensures ∙ c.if-in_set.false)
