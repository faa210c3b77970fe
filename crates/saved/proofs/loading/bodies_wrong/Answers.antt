use Rattle.saved.proofs.CurrentLaws.{current_size, current_fine}
use Rattle.saved.proofs.LoadLaws.{counts_eight, has_entries, size_known, edition_in, bodies_decide}
use Rattle.saved.specs.Load.{sizes_right}
use Rattle.editions.specs.Editions.{numbered, edition_at}
use Rattle.editions.specs.Steps.{tally_place, bodies_fine}
use Rattle.octets.proofs.Index.{and_no, and_yes}
use Rattle.octets.specs.Part.{part}
use Prim.Native.Nat.{ℕ, ◌≤◌}
use lib.ListN.{length}
use mathlib.Core.Path.{sym, ap, subst, ◌∙◌}
use mathlib.Core.Bool.{not}
use native.Mathlib.Omega.{arith}
use Rattle.saved.proofs.loading.bodies_wrong.Goals as goal

pub sizes_right-requires : goal.sizes_right-requires
sizes_right-requires c =
    let f = c.args.file.now in
    has_entries f c.requires.1.0 (counts_eight f c.requires.1.1)

pub returns-then-not-sizes_right : goal.returns-then-not-sizes_right
returns-then-not-sizes_right c =
    let f = c.args.file.now in
    let sized = ap (λ (n : ℕ). sizes_right (edition_at n) f) (sym c.requires.0) ∙ sym c.sizes_right.ensures in
    sym (bodies_decide f ∙ ap not (and_no _ (sized ∙ c.if-not-sizes_right.true)))

pub slice_bounds-check-end : goal.slice_bounds-check-end
slice_bounds-check-end c =
    let f = c.args.file.now in
    let right = ap (λ (n : ℕ). sizes_right (edition_at n) f) (sym c.requires.0) ∙ sym c.sizes_right.ensures ∙ c.if-not-sizes_right.false in
    let long = size_known f c.requires.1.0 (counts_eight f c.requires.1.1) (edition_in f) right in
    omega (arith, long, current_size f (sym c.requires.0 ∙ c.if-edition-eq-EDITION.true))

pub returns-then-edition-eq-EDITION : goal.returns-then-edition-eq-EDITION
unfolding part
returns-then-edition-eq-EDITION c =
    let f = c.args.file.now in
    let right = ap (λ (n : ℕ). sizes_right (edition_at n) f) (sym c.requires.0) ∙ sym c.sizes_right.ensures ∙ c.if-not-sizes_right.false in
    let long = size_known f c.requires.1.0 (counts_eight f c.requires.1.1) (edition_in f) right in
    let now = sym c.requires.0 ∙ c.if-edition-eq-EDITION.true in
    ap not c.check.ensures
    ∙ sym (bodies_decide f ∙ ap not (and_yes _ right ∙ current_fine f now (omega (arith, long, current_size f now))))

pub invariant_of-are_fine : goal.invariant_of-are_fine
invariant_of-are_fine c =
    let f = c.args.file.now in
    let right = ap (λ (n : ℕ). sizes_right (edition_at n) f) (sym c.requires.0) ∙ sym c.sizes_right.ensures ∙ c.if-not-sizes_right.false in
    let long = size_known f c.requires.1.0 (counts_eight f c.requires.1.1) (edition_in f) right in
    record { there = subst (λ (n : ℕ). tally_place (numbered n) ≤ length f) (sym c.requires.0) (omega (arith, long)) }

pub returns : goal.returns
returns c =
    let f = c.args.file.now in
    let right = ap (λ (n : ℕ). sizes_right (edition_at n) f) (sym c.requires.0) ∙ sym c.sizes_right.ensures ∙ c.if-not-sizes_right.false in
    ap not (c.are_fine.ensures ∙ ap (λ (n : ℕ). bodies_fine (numbered n) f) c.requires.0) ∙ sym (bodies_decide f ∙ ap not (and_yes _ right))
