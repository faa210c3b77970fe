use Rattle.std.proofs.Common.{rules, ◌∙◌, sym, ℕ, Bool, ltb, get_or}
use Rattle.std.proofs.lemmas.Iterator.{YieldsList-from_range}
use Rattle.std.proofs.lemmas.Iterator.Search.{all_from_yields_List}
use borrow.Author.Tests.{tests, eq-eqb}
use Rattle.octets.specs.Index.{◌and◌}
use Rattle.octets.proofs.Index.{and_yes}
use Rattle.octets.proofs.Chains.{all_over}
use Rattle.numbers.specs.Numbers.{port_count}
use Rattle.rules.specs.Renumbering.{differs_before, one_to_one}
use Rattle.maps.proofs.one_to_one.Goals as goal

pub returns : goal.returns
unfolding one_to_one ◌and◌
returns c =
    let fits : ℕ → Bool = λ i. ltb (get_or c.args.map.now i 0) port_count and differs_before c.args.map.now i in
    all_from_yields_List fits _ _ _ c.all.ensures.ran
    (YieldsList-from_range 0 port_count port_count (search rules) (search rules)) (λ x b q k. search (rules, tests))
    ∙ all_over fits port_count ∙ sym (and_yes _ (eq-eqb _ _ c.requires))
