use Rattle.std.proofs.Common.{sym, ap, ◌∙◌}
use Rattle.history.specs.Known.{Known}
use Rattle.opinion_log.specs.Log.{known_in}
use Rattle.opinion_log.proofs.Entries.{one_more}
use Rattle.opinion_log.proofs.Walk.{fresh_clock}
use Rattle.opinion_log.proofs.clocks.last_clock.Goals as goal

pub loop-i-init : goal.loop-i-init
loop-i-init c = fresh_clock _

pub loop-i-preserved : goal.loop-i-preserved
loop-i-preserved c = sym (ap (λ (x : Known). x.clock) (one_more _ _ _ c.entry_at.ensures.0) ∙ c.clock_after-clock.ensures (known_in c.args.log.now c.loop-i.i) (sym c.loop-i.invariant))
