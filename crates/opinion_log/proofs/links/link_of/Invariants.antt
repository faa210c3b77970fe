use Rattle.std.proofs.Common.{◌≡◌}
use Rattle.judging.specs.Seen.{link_of}
use Rattle.opinion_log.specs.Log.{known_in}
use Rattle.opinion_log.proofs.links.link_of.Given as goal

abbrev pub invariant-loop-i : goal.invariant-loop-i
invariant-loop-i l = link_of l.link ≡ (known_in l.log l.i).link l.id
