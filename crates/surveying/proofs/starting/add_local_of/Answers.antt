use Rattle.std.proofs.Common.{[], refl, ◌∙◌, arith}
use Rattle.numbers.proofs.RefusalNumbers.{some_number}
use Rattle.surveying.proofs.SettingLaws.{local_there, local_missing}
use Rattle.surveying.proofs.starting.add_local_of.Goals as goal

pub returns : goal.returns
returns c =
    let a = c.args in
    c.add_local.ensures.1 ∙ local_there a.from.now c.requires.0 a.place _ [] _ a.to.now (rw c.in-Some.is at (c.in-Ok.ensures [])) refl

pub returns-in_default-told : goal.returns-in_default-told
returns-in_default-told c =
    let a = c.args in
    local_missing a.from.now c.requires.0 a.place _ [] _ a.to.now (rw c.in_default-told.is at (c.in-Ok.ensures [])) (λ e. omega (arith, e))

pub returns-in_default : goal.returns-in_default
returns-in_default c =
    let a = c.args in
    local_missing a.from.now c.requires.0 a.place _ [] _ a.to.now (c.in_default.ensures []) (some_number _)
