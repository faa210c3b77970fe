-- `sha256::schedule::extend` meets its contract.
-- Assumes nothing.
use Rattle.std.proofs.Common.{◌≡◌, ◌-◌}
use Rattle.sha256.specs.Steps.{expanded_from}
use Rattle.sha256.proofs.schedule.extend.Given as goal

abbrev pub invariant-loop-i : goal.invariant-loop-i
invariant-loop-i l = l.w ≡ expanded_from l.initial.w l.t (l.i - l.t)
