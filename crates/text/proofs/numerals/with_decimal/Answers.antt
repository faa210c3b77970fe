use Prim.Native.Nat.{◌-◌}
use lib.ListN.{drop, length-drop}
use lib.Seq.{take_all}
use native.Mathlib.Omega.{arith}
use Rattle.text.specs.Numerals.{most_digits}
use Rattle.text.proofs.numerals.with_decimal.Goals as goal

pub returns : goal.returns
returns c =
    let w = c.write_decimal-start in
    cc (take_all (most_digits - w.result) (drop w.result w.new.digits) (simp length-drop (omega arith)), w.ensures.1)
