use Prim.Native.Nat.{◌%◌, ◌-◌}
use mathlib.Core.Path.{◌≡◌, ap, ◌∙◌}
use lib.ListN.{length-set}
use native.Mathlib.Omega.{arith}
use Rattle.text.specs.Numerals.{digit}
use Rattle.text.proofs.NumeralLaws.{rest_fits, decimal_turn, decimal_last}
use Rattle.text.proofs.numerals.write_decimal.Goals as goal

pub returns-then-rest-le-LARGEST_DIGIT : goal.returns-then-rest-le-LARGEST_DIGIT
returns-then-rest-le-LARGEST_DIGIT c =
    let l = c.loop-at in
    let e : l.rest % 10 ≡ l.rest = omega (arith, c.if-rest-le-LARGEST_DIGIT.true) in (
      omega arith,
      decimal_last l.digits l.at l.rest c.digit.result _ (omega arith) (omega arith) l.invariant.written (omega arith)
          (c.digit.ensures ∙ ap digit e),
    )

pub loop-at-preserved : goal.loop-at-preserved
loop-at-preserved c =
    let l = c.loop-at in
    record {
      first = omega arith;
      length = length-set l.digits (l.at - 1) c.digit.result ∙ l.invariant.length;
      fits = rest_fits l.at l.rest (omega arith) l.invariant.fits;
      written = decimal_turn l.digits l.at l.rest c.digit.result _ (omega arith) (omega arith) l.invariant.written c.if-rest-le-LARGEST_DIGIT.false c.digit.ensures;
    }

pub returns : goal.returns
returns c =
    let l = c.loop-at in
    let e : l.at ≡ 1 = omega arith in
    let fits = rw e at l.invariant.fits in (
      omega arith,
      decimal_last l.digits 1 l.rest c.digit-2.result _ (omega arith) (omega arith) (rw e at l.invariant.written) (omega arith) c.digit-2.ensures,
    )
