use Rattle.rules.specs.Refusals.{rate_settings_ok}
use Rattle.octets.specs.Index.{◌and◌}
use Rattle.std.proofs.Common.{sym, refl, ap, ◌∙◌}
use Rattle.history.specs.Known.{Known}
use Rattle.opinion_log.specs.Log.{known_in}
use Rattle.opinion_log.proofs.Entries.{one_more}
use Rattle.opinion_log.proofs.Walk.{fresh_rate}
use Rattle.opinion_log.proofs.rates.rate_at.Goals as goal

pub loop-i-init : goal.loop-i-init
unfolding rate_settings_ok ◌and◌
loop-i-init c = (fresh_rate _, refl)

pub loop-i-preserved : goal.loop-i-preserved
unfolding rate_settings_ok ◌and◌
loop-i-preserved c = (sym (ap (λ (x : Known). x.rate) (one_more _ _ _ c.entry_at.ensures.0) ∙ c.rate_after-rate.ensures.0 (known_in c.args.log.now c.loop-i.i) (sym c.loop-i.invariant.0)), c.rate_after-rate.ensures.1)
