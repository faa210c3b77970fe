use Rattle.opinion_log.proofs.Judged.{verdict_so, output_so}
use mathlib.Core.Path.{◌∙◌}
use Rattle.opinion.proofs.packets.judged.Goals as goal

pub returns : goal.returns
returns c = (
  c.answer_of.ensures.0 ∙ verdict_so _ _ _ c.seen-view.ensures.0,
  c.answer_of.ensures.1
      ∙ output_so _ _ _ c.seen-view.ensures.0 _,
)
