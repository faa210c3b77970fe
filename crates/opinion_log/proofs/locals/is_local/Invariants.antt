use Rattle.std.proofs.Common.{◌≡◌}
use Rattle.opinion_log.specs.Log.{known_in}
use Rattle.opinion_log.proofs.locals.is_local.Given as goal

abbrev pub invariant-loop-i : goal.invariant-loop-i
invariant-loop-i l = l.known ≡ (known_in l.log l.i).local l.address
