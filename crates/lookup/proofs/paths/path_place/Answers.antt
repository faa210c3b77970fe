use mathlib.Core.Path.{◌≡◌, ap, ◌∙◌}
use lib.ListN.{length}
use borrow.Author.Rules.{rules}
use Rattle.numbers.specs.Numbers.{path_count}
use Rattle.tables.specs.Places.{address_width}
use Rattle.lookup.specs.Search.{found}
use Rattle.lookup.proofs.Tables.{path_lowest}
use Rattle.lookup.proofs.paths.path_place.Goals as goal

pub returns : goal.returns
returns c =
    let a = c.args in
    let wide : length a.destination ≡ address_width = search rules in
    c.live_place.ensures ∙ ap (found path_count) (path_lowest a.tables.now a.clock a.destination wide)
