use native.Mathlib.Omega.{arith}
use Rattle.forms.proofs.FormLaws.{form_bad}
use Rattle.plan.proofs.FirstLaws.{first_steps}
use Rattle.plan.proofs.first.first_tests.Goals as goal

pub returns-in-Some : goal.returns-in-Some
returns-in-Some c =
    let (bad, named) = form_bad c.args.packet.now c.in-Some.ensures in
    grind (arith, first_steps)
