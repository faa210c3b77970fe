use native.Mathlib.Omega.{arith}
use Rattle.text.proofs.NumeralLaws.{digit_low, digit_high}
use Rattle.text.proofs.numerals.digit.Goals as goal

pub returns-then-n-lt10 : goal.returns-then-n-lt10
returns-then-n-lt10 c = digit_low c.args.n c.if-n-lt10.true

pub returns : goal.returns
returns c = omega (arith, digit_high c.args.n c.if-n-lt10.false)
