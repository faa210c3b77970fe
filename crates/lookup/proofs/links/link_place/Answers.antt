use mathlib.Core.Path.{◌≡◌, ap, ◌∙◌}
use lib.ListN.{length}
use borrow.Author.Rules.{rules}
use Rattle.numbers.specs.Numbers.{link_count}
use Rattle.tables.specs.Places.{address_width}
use Rattle.lookup.specs.Search.{found}
use Rattle.lookup.proofs.Tables.{link_lowest}
use Rattle.lookup.proofs.links.link_place.Goals as goal

pub returns : goal.returns
returns c =
    let a = c.args in
    let wide : length a.id ≡ address_width = search rules in
    c.live_place.ensures ∙ ap (found link_count) (link_lowest a.tables.now a.clock a.id wide)
