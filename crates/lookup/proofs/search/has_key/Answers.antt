use Rattle.std.proofs.lemmas.Grind.{common_steps}
use native.Mathlib.Omega.{arith}
use borrow.Author.Tests.{tests, ne_eqb}
use Prim.Native.Nat.{ℕ}
use lib.ListN.{length}
use mathlib.Core.List.{List}
use mathlib.Core.Path.{ap, ◌∙◌}
use Rattle.octets.specs.Index.{◌and◌}
use Rattle.octets.specs.Choice.{same}
use Rattle.octets.proofs.Part.{part_range}
use Rattle.octets.proofs.Chains.{equal_is_same}
use Rattle.lookup.specs.Search.{is_used, has_key}
use Rattle.lookup.proofs.search.has_key.Goals as goal

pub returns-then-b-ne0 : goal.returns-then-b-ne0
unfolding has_key is_used ◌and◌
returns-then-b-ne0 c =
    let b = c.args.b.now in
    let key = c.args.key.now in
    let used = ne_eqb _ _ c.if-b-ne0.true in
    c.eq.ensures ∙ equal_is_same _ key ∙ ap (λ (xs : List ℕ). same xs key) (part_range b 1 (length key)) ∙ rw used

pub returns-else-b-ne0 : goal.returns-else-b-ne0
unfolding has_key is_used ◌and◌
returns-else-b-ne0 c = grind (arith, common_steps, tests)
