use mathlib.Core.Path.{◌≡◌, ap, ◌∙◌}
use lib.ListN.{length}
use borrow.Author.Rules.{rules}
use Rattle.numbers.specs.Numbers.{hash_count}
use Rattle.tables.specs.Places.{digest_width}
use Rattle.lookup.specs.Search.{found}
use Rattle.lookup.proofs.Tables.{hash_lowest}
use Rattle.lookup.proofs.hashes.hash_place.Goals as goal

pub returns : goal.returns
returns c =
    let a = c.args in
    let wide : length a.hash ≡ digest_width = search rules in
    c.live_place.ensures ∙ ap (found hash_count) (hash_lowest a.tables.now a.clock a.hash wide)
