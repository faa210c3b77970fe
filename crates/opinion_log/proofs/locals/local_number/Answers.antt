use Rattle.std.proofs.Common.{arith}
use Rattle.std.proofs.Common.{sym, ap, ◌∙◌}
use Rattle.history.specs.Known.{Known}
use Rattle.opinion_log.specs.Log.{known_in}
use Rattle.opinion_log.proofs.Entries.{one_more}
use Rattle.opinion_log.proofs.Walk.{fresh_locals}
use Rattle.opinion_log.proofs.locals.local_number.Goals as goal

pub loop-i-init : goal.loop-i-init
loop-i-init c = (fresh_locals _, omega arith)

pub loop-i-preserved : goal.loop-i-preserved
loop-i-preserved c = (sym (ap (λ (x : Known). x.locals) (one_more _ _ _ c.entry_at.ensures.0) ∙ c.number_after-number.ensures.0 (known_in c.args.log.now c.loop-i.i) (sym c.loop-i.invariant.0)), omega (arith, c.number_after-number.ensures.1, c.loop-i.invariant.1))
