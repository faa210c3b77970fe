use mathlib.Core.Path.{◌≡◌}
use Rattle.text.specs.Words.{spaced}
use Rattle.text.specs.Text.{appended}
use Rattle.replaying.specs.Lines.{ports_below}
use Rattle.replaying.proofs.lines.with_ports.Given as goal

abbrev pub invariant-loop-port : goal.invariant-loop-port
invariant-loop-port l = l.grown ≡ appended l.initial.grown (spaced (ports_below l.ports l.port))
