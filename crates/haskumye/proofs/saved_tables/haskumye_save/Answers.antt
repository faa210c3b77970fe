-- what is saved is a file's length or nothing
use mathlib.Core.Path.{ap, ◌∙◌}
use Prim.Native.Nat.{◌≤◌}
use native.Mathlib.Omega.{arith}
use Rattle.numbers.specs.Refusals.{Written}
use Rattle.saved.specs.File.{saved_size}
use Rattle.saved.proofs.SaveLaws.{save_most}
use Rattle.crossing.specs.Saved.{saved_number}
use Rattle.haskumye.proofs.saved_tables.haskumye_save.Goals as goal
use Rattle.haskumye.proofs.saved_tables.haskumye_save.Goals.{In-Ok}

most : (c : In-Ok) → c.in-Ok.length ≤ saved_size
most c =
    let a = c.args in
    let long = ap (λ (s : Written). s.length) c.in-Ok.ensures.0 in
    omega (arith, long, save_most a.tables.now c.tally_in.result a.room.now)

pub overflow_mul-result : goal.overflow_mul-result
overflow_mul-result c = record { fits = omega (arith, most (goal.at.overflow_mul-result c).In-Ok) }

pub returns-in-Ok : goal.returns-in-Ok
unfolding saved_number
returns-in-Ok c =
    rw (← c.tally_in.ensures)
    (omega arith ∙ ap saved_number c.in-Ok.ensures.0, c.in-Ok.ensures.1)

pub returns-in-Err : goal.returns-in-Err
unfolding saved_number
returns-in-Err c =
    rw (← c.tally_in.ensures)
    (omega (arith, c.from.ensures, c.number.ensures) ∙ ap saved_number c.in-Err.ensures.0, c.in-Err.ensures.1)
