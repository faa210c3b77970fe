use mathlib.Core.Path.{ap, ◌∙◌}
use Rattle.std.specs.Prelude.{is_some}
use Rattle.numbers.specs.Numbers.{local_count}
use Rattle.rules.specs.View.{is_local}
use Rattle.lookup.proofs.Found.{found_is}
use Rattle.lookup.proofs.locals.is_local.Goals as goal

pub returns : goal.returns
unfolding is_local
returns c = c.is_some.ensures ∙ ap is_some c.local_place.ensures ∙ found_is local_count _
