use mathlib.Core.Path.{◌∙◌}
use borrow.Author.Rules.{rules}
use borrow.Author.Tests.{tests}
use Rattle.std.proofs.lemmas.Iterator.{YieldsList-from_range}
use Rattle.std.proofs.lemmas.Iterator.Search.{all_from_yields_List}
use Rattle.octets.proofs.Chains.{all_over}
use Rattle.editions.specs.Editions.{edition_at}
use Rattle.saved.specs.File.{body_count}
use Rattle.saved.specs.Load.{sizes_right}
use Rattle.saved.proofs.LoadLaws.{sized}
use Rattle.saved.proofs.loading.sizes_right.Goals as goal

pub returns : goal.returns
unfolding sizes_right
returns c =
    let f = c.args.file.now in
    let form = edition_at c.args.edition.number in
    all_from_yields_List (sized f form) _ _ _ c.all.ensures.ran (YieldsList-from_range 0 body_count body_count (search rules) (search rules))
    (λ x b q k. search (rules, tests))
    ∙ all_over (sized f form) body_count
