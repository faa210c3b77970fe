use mathlib.Core.Path.{◌∙◌}
use Rattle.codes.proofs.Single.{byte_mark}
use Rattle.codes.proofs.mark_of.Goals as goal

pub returns : goal.returns
returns c = c.from.ensures ∙ byte_mark c.args.answer
