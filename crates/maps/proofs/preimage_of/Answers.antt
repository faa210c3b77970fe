use Rattle.std.proofs.Common.{rules, ◌∙◌, ℕ, Bool, eqb}
use Rattle.std.proofs.lemmas.Iterator.{YieldsList-from_slice}
use Rattle.std.proofs.lemmas.Iterator.Search.{position_from_yields_List}
use borrow.Author.Tests.{tests}
use Rattle.octets.proofs.Chains.{position_or_number}
use Rattle.numbers.specs.Numbers.{port_count}
use Rattle.rules.specs.Renumbering.{preimage}
use Rattle.maps.proofs.preimage_of.Goals as goal

pub returns : goal.returns
unfolding preimage
returns c =
    let goes : ℕ → Bool = λ image. eqb image c.args.n in
    c.unwrap_or.ensures
    ∙ position_or_number goes 0 c.args.map.now port_count c.position.result
    (position_from_yields_List goes _ _ c.position.result c.position.ensures.ran (YieldsList-from_slice c.args.map.now (cc)) (λ x b q k. search (rules, tests)))
    c.requires
