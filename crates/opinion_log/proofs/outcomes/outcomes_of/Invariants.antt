use Rattle.std.proofs.Common.{◌≡◌, ◌≤◌, length}
use Rattle.history.specs.Opinion.{list_limit}
use Rattle.opinion_log.specs.Steps.{EffectsOf, KeptOf}
use Rattle.opinion_log.proofs.outcomes.outcomes_of.Given as goal

abbrev pub invariant-loop-i : goal.invariant-loop-i
invariant-loop-i l = (length l.outcomes ≡ list_limit) × (l.i ≤ list_limit) × EffectsOf l.log l.outcomes l.i × KeptOf l.log l.outcomes l.i
