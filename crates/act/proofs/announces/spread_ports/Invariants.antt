use mathlib.Core.Path.{◌≡◌}
use Rattle.rules.specs.Answers.{set_below}
use Rattle.tables.specs.Layout.{relay_of}
use Rattle.act.specs.Acted.{spreads_to}
use Rattle.act.proofs.announces.spread_ports.Given as goal

abbrev pub invariant-loop-port : goal.invariant-loop-port
invariant-loop-port l = l.ports ≡ set_below (spreads_to (relay_of l.tables) l.arrival l.long) l.port
