use native.Mathlib.Omega.{arith}
use native.Mathlib.Nat.{mul_assoc}
use Prim.Native.Nat.{ℕ, ◌*◌}
use mathlib.Core.Bool.{true, false≢true}
use mathlib.Core.Path.{◌≡◌, sym, ap, ◌∙◌}
use Rattle.std.proofs.Common.{rules, length}
use Rattle.octets.specs.Index.{zeros}
use Rattle.octets.proofs.Bytes.{known_bytes}
use Rattle.tables.specs.Layout.{records_ok}
use Rattle.tables.specs.Groups.{group_size, plain}
use Rattle.tables.proofs.Chunks.{every_chunk, groups_are_records, all_unused}
use Rattle.tables.proofs.Plain.{plain_fine}
use Rattle.tables.proofs.ring_check.group_ok.Goals as goal
use Rattle.tables.proofs.ring_check.group_ok.Goals.{then-is_zero, else-is_zero, then-four_marked, else-four_marked}

pub returns-then-all : goal.returns-then-all
returns-then-all g c =
    let R = g.R.InRing in
    let t = c.args.group.now in
    elim c.if-is_zero.branch [
      | then-is_zero w ↦ elim c.if-four_marked.branch [
        | then-four_marked v ↦
            let zero : zeros (length t) t ≡ true = sym v.is_zero.ensures ∙ sym v.value-is ∙ w.if-is_zero.true in
            c.if-all.true ∙ sym (all_unused R.fine R.WIDTH group_size t c.requires.grouped.unused c.requires.long zero)
        | else-four_marked v ↦ absurd (false≢true (sym v.if-four_marked.false ∙ sym v.value-is ∙ w.if-is_zero.true))
      ]
      | else-is_zero w ↦
          let p = plain R.WORD_AT R.small in
          let chunks = w.chunks_exact.ensures in
          let eights = every_chunk (records_ok p 0 R.WIDTH 8) (R.WIDTH * 8) 16 w.all.ensures.ran (chunks.size ∙ ap (λ (k : ℕ). k * 8) w.WIDTH-else-is_zero.ensures)
          (omega (arith, c.requires.grouped.wide)) (λ x b q k. search rules) t chunks.rest (c.requires.long ∙ sym (mul_assoc R.WIDTH 8 16)) in
          c.if-all.true
          ∙ sym (plain_fine c.requires.grouped group_size t (known_bytes t c.type_inv.group) c.requires.long
          (sym (groups_are_records p 0 R.WIDTH 8 t 16) ∙ sym eights ∙ sym w.value-is ∙ c.if-all.true))
    ]

pub returns-else-all : goal.returns-else-all
returns-else-all g c =
    let R = g.R.InRing in
    let t = c.args.group.now in
    let chunks = c.chunks_exact-else-all.ensures in
    every_chunk (records_ok R.fine 0 R.WIDTH 4) (R.WIDTH * 4) 32 c.all-else-all.ensures.ran (chunks.size ∙ ap (λ (k : ℕ). k * 4) c.WIDTH-else-all.ensures)
    (omega (arith, c.requires.grouped.wide)) (λ x b q k. search rules) t chunks.rest (c.requires.long ∙ sym (mul_assoc R.WIDTH 4 32))
    ∙ groups_are_records R.fine 0 R.WIDTH 4 t 32
