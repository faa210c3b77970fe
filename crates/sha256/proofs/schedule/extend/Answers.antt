-- `sha256::schedule::extend` meets its contract.
-- Assumes nothing.
use Rattle.std.proofs.Common.{◌≡◌, ◌+◌, ◌-◌, arith}
use Rattle.sha256.specs.Steps.{expanded_from}
use Rattle.sha256.proofs.ScheduleLaws.{expanded_more}
use Rattle.sha256.proofs.schedule.extend.Goals as goal

pub loop-i-init : goal.loop-i-init
unfolding expanded_from
loop-i-init c =
    let e : c.args.t - c.args.t ≡ 0 = omega arith in rw e

pub loop-i-preserved : goal.loop-i-preserved
loop-i-preserved c =
    let l = c.loop-i in
    let t = c.args.t in
    let e : l.i + 1 - t ≡ l.i - t + 1 = omega arith in
    let e2 : t + (l.i - t) ≡ l.i = omega arith in
    rw e (rw e2 at (expanded_more _ l.w t (l.i - t) c.expanded_word.result l.invariant (rw e2 c.expanded_word.ensures)))
