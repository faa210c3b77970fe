use Rattle.std.proofs.Common.{◌≡◌}
use Rattle.opinion_log.specs.Log.{known_in}
use Rattle.opinion_log.proofs.ports.port_at.Given as goal

abbrev pub invariant-loop-i : goal.invariant-loop-i
invariant-loop-i l = (known_in l.log l.n).port l.port ≡ (known_in l.log l.i).port l.name
