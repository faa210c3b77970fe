use mathlib.Core.Bool.{true}
use mathlib.Core.Path.{◌≡◌, sym}
use native.Mathlib.Omega.{arith}
use Rattle.octets.proofs.Bytes.{known_bytes}
use Rattle.recording.specs.Reader.{is_there}
use Rattle.recording.proofs.ShapeLaws.{count_lt}
use Rattle.replaying.proofs.StepLaws.{there_counted, found, called, not_stepped, stepped}
use Rattle.replaying.proofs.step.Goals as goal
use Rattle.replaying.proofs.step.Goals.{In-Some}

there : (c : In-Some) → is_there c.args.file.now c.args.i ≡ true
there c = sym (found c.args.file.now c.args.i _ c.in-Some.ensures)

pub returns-in_default : goal.returns-in_default
returns-in_default c =
    let a = c.args in
    rw c.number.ensures (not_stepped a.file.now a.i a.tables.now a.tally (sym (found a.file.now a.i _ c.in_default.ensures)))

pub overflow_add-i : goal.overflow_add-i
overflow_add-i c =
    let f = c.args.file.now in
    let counted = there_counted f c.args.i (there (goal.at.overflow_add-i c).In-Some) in
    omega (arith, count_lt f (known_bytes f c.type_inv.file))

pub returns : goal.returns
returns c =
    let a = c.args in
    let f = a.file.now in
    stepped f a.i a.tables.now a.tally (there (goal.at.returns c).In-Some) _
    (called f a.i _ c.in-Some.ensures a.tables.now a.tally _ c.body-body.ensures _ c.from.ensures)
    _ _ _ _ c.judge-judged.ensures _ c.line_of.ensures
