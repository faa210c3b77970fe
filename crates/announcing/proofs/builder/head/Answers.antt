use borrow.Author.Tests.{eq-eqb, ne_eqb}
use Rattle.octets.specs.Choice.{◌then◌otherwise◌}
use Rattle.announcing.specs.Announcing.{head_of}
use Rattle.announcing.proofs.builder.head.Goals as goal

pub returns-then-ratchet-eq0 : goal.returns-then-ratchet-eq0
unfolding head_of ◌then◌otherwise◌
returns-then-ratchet-eq0 c = rw (eq-eqb c.args.ratchet 0 c.if-ratchet-eq0.true)

pub returns-else-ratchet-eq0 : goal.returns-else-ratchet-eq0
unfolding head_of ◌then◌otherwise◌
returns-else-ratchet-eq0 c = rw (ne_eqb c.args.ratchet 0 c.if-ratchet-eq0.false)
