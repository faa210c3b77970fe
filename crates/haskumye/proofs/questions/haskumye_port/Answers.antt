use mathlib.Core.Path.{◌∙◌}
use Rattle.haskumye.proofs.questions.haskumye_port.Goals as goal

pub returns : goal.returns
returns c =
    let told = c.port_settings.ensures c.args.settings.now in
    (c.put_some.ensures.0 ∙ told.0, c.put_some.ensures.1 ∙ told.1)
