use mathlib.Core.Path.{◌≡◌}
use Rattle.octets.specs.Part.{patch}
use Rattle.tables.specs.Places.{ports_at}
use Rattle.editions.specs.Editions.{numbered}
use Rattle.editions.specs.Steps.{ports_now}
use Rattle.editions.proofs.older.Bodies.write_ports.Given as goal

abbrev pub invariant-loop-i : goal.invariant-loop-i
invariant-loop-i l = l.front ≡ patch l.initial.front ports_at (ports_now (numbered l.self.edition.number) l.self.file.now l.i)
