use Rattle.std.proofs.Common.{◌≡◌, ℕ, ap, ◌∙◌, le_antisymm, arith}
use Rattle.octets.specs.Index.{list_of}
use Rattle.numbers.specs.Numbers.{port_count}
use Rattle.tables.specs.Layout.{relay_of}
use Rattle.surveying.specs.Start.{port_call, tables_after}
use Rattle.surveying.proofs.SettingLaws.{no_port_set, port_more}
use Rattle.surveying.proofs.starting.set_ports_as.Goals as goal

pub loop-port-init : goal.loop-port-init
loop-port-init c = no_port_set (relay_of c.args.from.now) c.args.to.now

pub set_port_as-requires : goal.set_port_as-requires
set_port_as-requires c = (c.requires, c.loop-port-test.true)

pub loop-port-preserved : goal.loop-port-preserved
loop-port-preserved c =
    let a = c.args in
    let l = c.loop-port in
    port_more (relay_of a.from.now) a.to.now l.to l.port l.invariant _ c.set_port_as.ensures

pub returns : goal.returns
returns c =
    let a = c.args in
    let l = c.loop-port in
    let end : l.port ≡ port_count = le_antisymm (omega (arith, l.auto.port-end)) c.loop-port-test.false in
    l.invariant ∙ ap (λ (n : ℕ). tables_after (list_of (port_call (relay_of a.from.now)) n) a.to.now) end
