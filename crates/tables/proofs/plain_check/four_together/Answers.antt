use Rattle.tables.proofs.Plain.{none_together, one_together}
use native.Mathlib.Omega.{arith}
use Rattle.tables.proofs.plain_check.four_together.Goals as goal

pub returns : goal.returns
returns c =
    let a = c.args in
    let t = a.t.now in
    let one = one_together t a.at a.width 0 (omega arith) c.number_of_8_at.ensures (none_together _ _ _) in
    let two = one_together t a.at a.width 1 (omega arith) c.number_of_8_at-2.ensures one in
    let three = one_together t a.at a.width 2 (omega arith) c.number_of_8_at-3.ensures two in
    one_together t a.at a.width 3 (omega arith) c.number_of_8_at-4.ensures three
