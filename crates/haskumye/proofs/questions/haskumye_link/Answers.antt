use mathlib.Core.Path.{◌∙◌}
use Rattle.haskumye.proofs.questions.haskumye_link.Goals as goal

pub returns : goal.returns
returns c =
    let told = c.link_at.ensures c.args.link.now in
    (c.put_some.ensures.0 ∙ told.0, c.put_some.ensures.1 ∙ told.1)
