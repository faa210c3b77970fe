use Rattle.std.proofs.Common.{arith, ◌∙◌}
use Rattle.outgoing.proofs.PortLaws.{set_begin, set_room, set_more, set_end}
use Rattle.judging.specs.Steps.{spreads_to}
use Rattle.judging.proofs.sending.spread_ports.Goals as goal

pub loop-i-init : goal.loop-i-init
loop-i-init c = set_begin _

pub with_spread_port-set-requires : goal.with_spread_port-set-requires
with_spread_port-set-requires c = (omega arith, set_room _ _ c.loop-i.invariant)

pub loop-i-preserved : goal.loop-i-preserved
loop-i-preserved c = c.with_spread_port-set.ensures ∙ rw c.port_at-port.ensures (set_more (spreads_to c.args.ports c.args.arrival c.args.long) _ c.loop-i.invariant)

pub returns : goal.returns
returns c = set_end _ _ c.loop-i.invariant (omega arith) (omega arith)
