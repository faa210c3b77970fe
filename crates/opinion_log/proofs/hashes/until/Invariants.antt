use Rattle.std.proofs.Common.{◌≡◌}
use Rattle.opinion_log.specs.Log.{known_in}
use Rattle.opinion_log.proofs.hashes.until.Given as goal

abbrev pub invariant-loop-i : goal.invariant-loop-i
invariant-loop-i l = l.time ≡ (known_in l.log l.i).until l.hash
