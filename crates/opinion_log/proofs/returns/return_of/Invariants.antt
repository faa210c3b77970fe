use Rattle.std.proofs.Common.{◌≡◌}
use Rattle.judging.specs.Seen.{return_of}
use Rattle.opinion_log.specs.Log.{known_in}
use Rattle.opinion_log.proofs.returns.return_of.Given as goal

abbrev pub invariant-loop-i : goal.invariant-loop-i
invariant-loop-i l = return_of l.key l.back ≡ (known_in l.log l.i).return l.key
