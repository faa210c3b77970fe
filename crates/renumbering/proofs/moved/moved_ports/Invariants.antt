use mathlib.Core.Path.{◌≡◌}
use Rattle.rules.specs.Renumbering.{moved_ports}
use Rattle.tables.specs.Records.{port_bytes}
use Rattle.tables.specs.Layout.{relay_of}
use Rattle.tables.proofs.Section.{up_to}
use Rattle.renumbering.proofs.moved.moved_ports.Given as goal

abbrev pub invariant-loop-n : goal.invariant-loop-n
invariant-loop-n l = l.moved ≡ up_to port_bytes 0 (moved_ports l.map (relay_of l.tables).ports) l.initial.moved l.n
