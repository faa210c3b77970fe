use Rattle.opinion_log.specs.Steps.{PathKnown}
use Rattle.opinion_log.proofs.paths.path_of.Given as goal

abbrev pub invariant-loop-i : goal.invariant-loop-i
invariant-loop-i l = PathKnown l.log l.i l.destination l.path
