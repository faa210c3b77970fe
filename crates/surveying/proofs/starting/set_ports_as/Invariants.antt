use Rattle.std.proofs.Common.{◌≡◌}
use Rattle.octets.specs.Index.{list_of}
use Rattle.tables.specs.Layout.{relay_of}
use Rattle.surveying.specs.Start.{port_call, tables_after}
use Rattle.surveying.proofs.starting.set_ports_as.Given as goal

abbrev pub invariant-loop-port : goal.invariant-loop-port
invariant-loop-port l = l.to ≡ tables_after (list_of (port_call (relay_of l.from)) l.port) l.initial.to
