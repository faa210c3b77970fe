use mathlib.Core.Path.{ap, ◌∙◌}
use Rattle.numbers.specs.Numbers.{path_count}
use Rattle.lookup.specs.Search.{found}
use Rattle.lookup.proofs.Tables.{path_free}
use Rattle.lookup.proofs.paths.free_path.Goals as goal

pub returns : goal.returns
returns c = c.free_place.ensures ∙ ap (found path_count) (path_free c.args.tables.now c.args.clock)
