use mathlib.Core.Path.{◌∙◌}
use native.Mathlib.Omega.{arith}
use Rattle.tables.specs.Layout.{relay_of}
use Rattle.outgoing.proofs.PortLaws.{set_begin, set_room, set_more, set_end}
use Rattle.act.specs.Acted.{spreads_to}
use Rattle.act.proofs.announces.spread_ports.Goals as goal

pub loop-port-init : goal.loop-port-init
loop-port-init c = set_begin _

pub with_spread_port-ports-requires : goal.with_spread_port-ports-requires
with_spread_port-ports-requires c = (omega arith, set_room _ _ c.loop-port.invariant)

pub loop-port-preserved : goal.loop-port-preserved
loop-port-preserved c =
    let a = c.args in
    c.with_spread_port-ports.ensures
    ∙ rw (c.port_on-on.ensures, c.from.ensures, c.port_size-size.ensures, c.from-in-loop-port.ensures)
    (set_more (spreads_to (relay_of a.tables.now) a.arrival a.long) _ c.loop-port.invariant)

pub returns : goal.returns
returns c = set_end _ _ c.loop-port.invariant c.loop-port.auto.port-end c.loop-port-test.false
