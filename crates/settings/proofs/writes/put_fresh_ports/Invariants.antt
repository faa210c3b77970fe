use mathlib.Core.Path.{◌≡◌}
use lib.ListN.{replicate}
use Rattle.numbers.specs.Numbers.{port_count}
use Rattle.rules.specs.Relay.{fresh_port}
use Rattle.tables.specs.Places.{ports_at}
use Rattle.tables.specs.Records.{port_bytes}
use Rattle.tables.proofs.Section.{up_to}
use Rattle.settings.proofs.writes.put_fresh_ports.Given as goal

abbrev pub invariant-loop-i : goal.invariant-loop-i
invariant-loop-i l = l.tables ≡ up_to port_bytes ports_at (replicate port_count fresh_port) l.initial.tables l.i
