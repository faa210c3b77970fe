use Rattle.std.proofs.Common.{◌≡◌}
use Rattle.surveying.specs.Fraction.{greatest_common_divisor}
use Rattle.surveying.proofs.fractions.greatest_common_divisor.Given as goal

abbrev pub invariant-loop-y : goal.invariant-loop-y
invariant-loop-y l = greatest_common_divisor l.x l.y ≡ greatest_common_divisor l.a l.b

abbrev pub decreases-loop-y : goal.decreases-loop-y
decreases-loop-y l = l.y
