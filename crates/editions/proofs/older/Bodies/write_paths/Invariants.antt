use mathlib.Core.Path.{◌≡◌}
use Rattle.octets.specs.Part.{patch}
use Rattle.tables.specs.Places.{paths_at}
use Rattle.editions.specs.Editions.{numbered}
use Rattle.editions.specs.Steps.{paths_now}
use Rattle.editions.proofs.older.Bodies.write_paths.Given as goal

abbrev pub invariant-loop-i : goal.invariant-loop-i
invariant-loop-i l = l.tables ≡ patch l.initial.tables paths_at (paths_now (numbered l.self.edition.number) l.self.file.now l.i)
