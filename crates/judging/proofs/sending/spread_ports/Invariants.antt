use mathlib.Core.Path.{◌≡◌}
use Rattle.rules.specs.Answers.{set_below}
use Rattle.judging.specs.Steps.{spreads_to}
use Rattle.judging.proofs.sending.spread_ports.Given as goal

abbrev pub invariant-loop-i : goal.invariant-loop-i
invariant-loop-i l = l.set ≡ set_below (spreads_to l.ports l.arrival l.long) l.i
