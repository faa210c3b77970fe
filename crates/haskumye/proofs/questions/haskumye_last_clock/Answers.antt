use mathlib.Core.Path.{◌∙◌}
use Rattle.haskumye.proofs.questions.haskumye_last_clock.Goals as goal

pub returns : goal.returns
returns c =
    let told = c.last_clock.ensures c.args.clock.now in
    (c.put.ensures.0 ∙ told.0, c.put.ensures.1 ∙ told.1)
