use mathlib.Core.Path.{◌∙◌}
use Rattle.haskumye.proofs.questions.haskumye_announce_rate.Goals as goal

pub returns : goal.returns
returns c =
    let told = c.rate_settings.ensures c.args.settings.now in
    (c.put.ensures.0 ∙ told.0, c.put.ensures.1 ∙ told.1)
