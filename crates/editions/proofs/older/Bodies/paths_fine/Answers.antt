use Prim.Native.Nat.{ℕ}
use mathlib.Core.Bool.{Bool}
use mathlib.Core.Path.{◌∙◌}
use borrow.Author.Rules.{rules}
use borrow.Author.Tests.{tests}
use Rattle.std.proofs.lemmas.Iterator.{YieldsList-from_range}
use Rattle.std.proofs.lemmas.Iterator.Search.{all_from_yields_List}
use Rattle.octets.proofs.Chains.{all_over}
use Rattle.numbers.specs.Numbers.{path_count}
use Rattle.editions.specs.Editions.{numbered}
use Rattle.editions.specs.Steps.{path_now, path_fine, paths_fine}
use Rattle.editions.proofs.older.Bodies.paths_fine.Goals as goal

pub returns : goal.returns
unfolding paths_fine
returns c =
    let e = numbered c.args.self.edition.number in
    let fine : ℕ → Bool = λ i. path_fine e (path_now e c.args.self.file.now i) in
    all_from_yields_List fine _ _ _ c.all.ensures.ran (YieldsList-from_range 0 path_count path_count (search rules) (search rules))
    (λ x b q k. search (rules, tests))
    ∙ all_over fine path_count
