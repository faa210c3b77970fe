use Rattle.std.proofs.Common.{ap, ◌∙◌}
use Rattle.judging.specs.Seen.{arrival_of}
use Rattle.opinion_log.specs.Log.{known_in}
use Rattle.opinion_log.specs.Steps.{planned_effect}
use Rattle.opinion_log.proofs.Judged.{effect_so, kept_so}
use Rattle.opinion_log.proofs.outcomes.packet_outcome.Goals as goal

pub returns : goal.returns
returns c =
    let k = known_in c.args.log.now c.args.n in
    let a = arrival_of c.args.packet.now c.args.arrived in
    let s = c.seen-view.result in
    let r = c.plan_of-planned.result in (
      c.effect_of.ensures ∙ ap (planned_effect r) c.is_data.ensures ∙ effect_so a k s c.seen-view.ensures.0 r c.plan_of-planned.ensures,
      c.remembers.ensures ∙ kept_so a k s c.seen-view.ensures.0 r c.plan_of-planned.ensures,
    )
