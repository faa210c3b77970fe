use Rattle.std.proofs.Common.{◌≡◌}
use Rattle.opinion_log.specs.Log.{known_in}
use Rattle.opinion_log.proofs.clocks.last_clock.Given as goal

abbrev pub invariant-loop-i : goal.invariant-loop-i
invariant-loop-i l = l.clock ≡ (known_in l.log l.i).clock
