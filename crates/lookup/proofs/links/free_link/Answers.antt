use mathlib.Core.Path.{ap, ◌∙◌}
use Rattle.numbers.specs.Numbers.{link_count}
use Rattle.lookup.specs.Search.{found}
use Rattle.lookup.proofs.Tables.{link_free}
use Rattle.lookup.proofs.links.free_link.Goals as goal

pub returns : goal.returns
returns c = c.free_place.ensures ∙ ap (found link_count) (link_free c.args.tables.now c.args.clock)
