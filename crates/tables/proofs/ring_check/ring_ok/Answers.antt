use Rattle.std.proofs.lemmas.Grind.{common_steps}
use native.Mathlib.Omega.{arith}
use native.Mathlib.Nat.{mul_assoc}
use borrow.Author.Tests.{tests, lt-ltb}
use Prim.Native.Nat.{ℕ, ◌+◌, ◌-◌, ◌*◌, ◌/◌}
use lib.ListN.{take, drop}
use lib.Dec.{ltb}
use mathlib.Core.Path.{◌≡◌, sym, ap, ◌∙◌}
use Rattle.std.proofs.Common.{rules, length}
use Rattle.octets.specs.Index.{◌and◌}
use Rattle.octets.proofs.Index.{and_yes}
use Rattle.tables.specs.Layout.{records_ok}
use Rattle.tables.specs.Groups.{group_size}
use Rattle.tables.specs.Places.{ring_width}
use Rattle.tables.proofs.Chunks.{every_chunk_of, groups_are_records}
use Rattle.tables.proofs.ring_check.ring_ok.Goals as goal

pub returns-then-number_at-COUNT : goal.returns-then-number_at-COUNT
returns-then-number_at-COUNT g c =
    let R = g.R.InRing in
    let t = c.args.ring.now in
    let groups = R.COUNT / group_size in
    let whole = c.requires.grouped.whole in
    let size : R.WIDTH * R.COUNT ≡ R.WIDTH * group_size * groups = ap (λ (n : ℕ). R.WIDTH * n) whole ∙ sym (mul_assoc R.WIDTH group_size groups) in
    let long : length t ≡ ring_width + R.WIDTH * group_size * groups = c.requires.long ∙ ap (λ (n : ℕ). ring_width + n) size in
    every_chunk_of (records_ok R.fine 0 R.WIDTH group_size) (R.WIDTH * group_size) groups c.all.ensures.ran
    (c.chunks_exact.ensures.size ∙ ap (λ (w : ℕ). w * group_size) c.WIDTH.ensures) (omega (arith, c.requires.grouped.wide)) (λ x b q k. search rules)
    ring_width t (c.chunks_exact.ensures.rest ∙ ap (λ (n : ℕ). take (n - ring_width) (drop ring_width t)) long) (omega (arith, long))
    ∙ groups_are_records R.fine ring_width R.WIDTH group_size t groups
    ∙ ap (λ (n : ℕ). records_ok R.fine ring_width R.WIDTH n t) (sym whole)
    ∙ sym (and_yes _ ((λ i. ltb (sym c.number_at.ensures i) (sym c.COUNT.ensures i)) ∙ lt-ltb _ _ c.if-number_at-COUNT.true))

pub returns-else-number_at-COUNT : goal.returns-else-number_at-COUNT
unfolding ◌and◌
returns-else-number_at-COUNT g c = grind (arith, common_steps, tests)
