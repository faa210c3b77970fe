use Rattle.std.proofs.Common.{rules, ◌∙◌, ℕ, Bool, not, eqb, get_or}
use Rattle.std.proofs.lemmas.Iterator.{YieldsList-from_range}
use Rattle.std.proofs.lemmas.Iterator.Search.{all_from_yields_List}
use borrow.Author.Tests.{tests}
use Rattle.octets.proofs.Chains.{all_over}
use Rattle.rules.specs.Renumbering.{differs_before}
use Rattle.maps.proofs.differs_before.Goals as goal

pub returns : goal.returns
unfolding differs_before
returns c =
    let differs : ℕ → Bool = λ j. not (eqb (get_or c.args.map.now j 0) (get_or c.args.map.now c.args.i 0)) in
    all_from_yields_List differs _ _ _ c.all.ensures.ran
    (YieldsList-from_range 0 c.args.i c.args.i (search rules) (search rules)) (λ x b q k. search (rules, tests))
    ∙ all_over differs c.args.i
