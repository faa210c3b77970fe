use Rattle.std.proofs.Common.{ℕ, eqb, sym, ap, ◌∙◌}
use Rattle.octets.specs.Index.{◌and◌}
use Rattle.surveying.proofs.counting.accepted_on.Goals as goal

pub returns-then-is_accepted : goal.returns-then-is_accepted
unfolding ◌and◌
returns-then-is_accepted c =
    rw (sym c.is_accepted.ensures ∙ c.if-is_accepted.true) (ap (λ (n : ℕ). eqb n c.args.port) c.from.ensures)

pub returns-else-is_accepted : goal.returns-else-is_accepted
unfolding ◌and◌
returns-else-is_accepted c = rw (sym c.is_accepted.ensures ∙ c.if-is_accepted.false) c.if-is_accepted.false
