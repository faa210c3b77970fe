use Rattle.std.proofs.Common.{sym, ◌∙◌, eq-eqb, ne_eqb}
use Rattle.octets.specs.Choice.{◌then◌otherwise◌}
use Rattle.octets.specs.Index.{◌and◌}
use Rattle.surveying.specs.Counts.{test_of}
use Rattle.surveying.proofs.counting.dropped_on.Goals as goal

pub returns-then-test_of-eq0 : goal.returns-then-test_of-eq0
unfolding ◌then◌otherwise◌ ◌and◌
returns-then-test_of-eq0 c =
    let a = c.args in
    rw (eq-eqb (test_of a.answer) 0 (sym c.test_of.ensures ∙ c.if-test_of-eq0.true))

pub returns : goal.returns
unfolding ◌then◌otherwise◌ ◌and◌
returns c =
    let a = c.args in
    rw (ne_eqb (test_of a.answer) 0 (λ q. c.if-test_of-eq0.false (c.test_of.ensures ∙ q))) c.amount_on.ensures
