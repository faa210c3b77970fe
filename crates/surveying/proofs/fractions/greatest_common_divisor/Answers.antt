use Rattle.std.proofs.Common.{sym, refl, ap, ◌∙◌, mod-lt, arith}
use Rattle.surveying.specs.Fraction.{greatest_common_divisor}
use Rattle.surveying.proofs.FractionLaws.{divisor_step, divisor_end}
use Rattle.surveying.proofs.fractions.greatest_common_divisor.Goals as goal

pub loop-y-init : goal.loop-y-init
loop-y-init c = refl

pub loop-y-smaller : goal.loop-y-smaller
loop-y-smaller c = mod-lt c.loop-y.x (omega (arith, c.loop-y-test.true))

pub loop-y-preserved : goal.loop-y-preserved
loop-y-preserved c =
    let l = c.loop-y in
    sym (divisor_step l.x l.y (omega (arith, c.loop-y-test.true))) ∙ l.invariant

pub returns : goal.returns
returns c =
    let l = c.loop-y in
    sym (divisor_end l.x) ∙ ap (greatest_common_divisor l.x) (sym c.loop-y-test.false) ∙ l.invariant
