use Rattle.std.proofs.Common.{◌≡◌, ◌≤◌}
use Rattle.opinion_log.specs.Log.{known_in}
use Rattle.opinion_log.proofs.locals.local_number.Given as goal

abbrev pub invariant-loop-i : goal.invariant-loop-i
invariant-loop-i l = (l.number ≡ (known_in l.log l.i).locals) × (l.number ≤ l.i)
