use Rattle.std.proofs.Common.{arith}
use Rattle.std.proofs.Common.{◌≡◌, ◌∙◌}
use lib.ListN.{length-set}
use Rattle.opinion_log.specs.Log.{entry_of, entry_bytes, known_in}
use Rattle.opinion_log.specs.Steps.{effect_of, keeps_hash, idle}
use Rattle.opinion_log.proofs.Views.{filled}
use Rattle.opinion_log.proofs.outcomes.outcomes_of.Goals as goal

pub loop-i-preserved : goal.loop-i-preserved
loop-i-preserved c =
    let log = c.args.log.now in
    let wide = c.loop-i.invariant.0 in (
      length-set c.loop-i.outcomes c.loop-i.i c.outcome_at.result ∙ wide,
      omega arith,
      filled (λ j x. x.effect ≡ effect_of (entry_of (entry_bytes log j)) (known_in log j)) c.loop-i.outcomes c.loop-i.i c.outcome_at.result idle
          (omega (arith, wide)) c.loop-i.invariant.2 c.outcome_at.ensures.0,
      filled (λ j x. x.kept ≡ keeps_hash (entry_of (entry_bytes log j)) (known_in log j)) c.loop-i.outcomes c.loop-i.i c.outcome_at.result idle
          (omega (arith, wide)) c.loop-i.invariant.3 c.outcome_at.ensures.1,
    )
