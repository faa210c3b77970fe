use Prim.Native.Nat.{ℕ}
use native.Mathlib.Omega.{arith}
use borrow.Author.Tests.{tests}
use mathlib.Core.List.{List}
use mathlib.Core.Path.{ap, ◌∙◌}
use Rattle.std.proofs.lemmas.Grind.{common_steps}
use Rattle.octets.specs.Index.{◌and◌}
use Rattle.octets.specs.Choice.{same, ◌then◌otherwise◌}
use Rattle.octets.proofs.Part.{part_range}
use Rattle.octets.proofs.Chains.{equal_is_same}
use Rattle.tables.specs.Places.{address_width}
use Rattle.rules.specs.Relay.{holds}
use Rattle.rules.specs.View.{is_live_return}
use Rattle.tables.specs.Records.{slot_of, return_of}
use Rattle.update.proofs.returns.is_live.Goals as goal
use Rattle.update.proofs.returns.is_live.Goals.{then-b-ne0, else-b-ne0}

pub returns-then-eq : goal.returns-then-eq
unfolding holds slot_of is_live_return return_of ◌then◌otherwise◌ ◌and◌
returns-then-eq c =
    let b = c.args.b.now in
    let key = c.args.key.now in
    elim c.if-b-ne0.branch [
      | then-b-ne0 w ↦
          let seen = w.eq.ensures ∙ equal_is_same _ key ∙ ap (λ (x : List ℕ). same x key) (part_range b 1 address_width) in
          grind (arith, common_steps, tests)
      | else-b-ne0 w ↦ grind (arith, common_steps, tests)
    ]

pub returns-else-eq : goal.returns-else-eq
unfolding holds slot_of is_live_return return_of ◌then◌otherwise◌ ◌and◌
returns-else-eq c =
    let b = c.args.b.now in
    let key = c.args.key.now in
    elim c.if-b-ne0.branch [
      | then-b-ne0 w ↦
          let seen = w.eq.ensures ∙ equal_is_same _ key ∙ ap (λ (x : List ℕ). same x key) (part_range b 1 address_width) in
          grind (arith, common_steps, tests)
      | else-b-ne0 w ↦ grind (arith, common_steps, tests)
    ]
