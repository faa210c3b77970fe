use Rattle.std.proofs.Common.{[], sym, ap, ◌∙◌, arith}
use Rattle.octets.proofs.Bytes.{known_bytes}
use Rattle.numbers.proofs.RefusalNumbers.{some_number}
use Rattle.rules.specs.Calls.{TableCall}
use Rattle.tables.specs.Called.{call_on}
use Rattle.status.proofs.Asked.{port_told}
use Rattle.surveying.proofs.SettingLaws.{port_told_as}
use Rattle.surveying.proofs.starting.set_port_as.Goals as goal

pub returns-in_default : goal.returns-in_default
returns-in_default c =
    let a = c.args in
    let t = a.from.now in
    let told = (port_told t c.requires.0 (known_bytes t c.type_inv.from) a.port c.requires.1 []).0 in
    absurd (some_number _ ((c.in_default.ensures []).0 ∙ sym told))

pub returns-in_default-settings : goal.returns-in_default-settings
returns-in_default-settings c =
    let a = c.args in
    let t = a.from.now in
    let told = (port_told t c.requires.0 (known_bytes t c.type_inv.from) a.port c.requires.1 []).0 in
    let none = rw c.in_default-settings.is at (c.in-Ok.ensures []).0 in
    absurd (omega (arith, told, none))

pub returns : goal.returns
returns c =
    let a = c.args in
    (rw (c.from.ensures, c.size_in.ensures) at c.set_port.ensures.1)
    ∙ ap (λ (k : TableCall). (call_on a.to.now k).tables)
    (port_told_as a.from.now c.requires.0 a.port c.requires.1 [] _ (rw c.in-Some.is at (c.in-Ok.ensures []).1))
