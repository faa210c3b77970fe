use native.Mathlib.Omega.{arith}
use Prim.Native.Nat.{◌+◌, ◌*◌}
use mathlib.Core.Bool.{true}
use mathlib.Core.Path.{◌≡◌, sym, ap, ◌∙◌}
use Rattle.std.proofs.Common.{rules}
use Rattle.octets.specs.Index.{all_below}
use Rattle.octets.specs.Part.{part}
use Rattle.octets.specs.BigEndian.{number, word_width}
use Rattle.octets.proofs.Bytes.{known_bytes}
use Rattle.tables.specs.Groups.{used_or_zero, together}
use Rattle.tables.proofs.Chunks.{every_chunk}
use Rattle.tables.proofs.Plain.{small_left}
use Rattle.tables.proofs.ring_check.four_ok.Goals as goal

pub returns-then-is_small : goal.returns-then-is_small
returns-then-is_small g c =
    let R = g.R.InRing in
    let t = c.args.four.now in
    let width = sym c.WIDTH.ensures in
    let word_at = sym c.WORD_AT.ensures in
    let small : all_below (λ k. R.small (number (part t (R.WORD_AT + R.WIDTH * k) word_width))) 4 ≡ true =
    sym (c.requires.grouped.at_once _ 4)
    ∙ ap R.small ((λ i. together (λ k. number (part t (word_at i + width i * k) word_width)) 4) ∙ sym c.four_together.ensures)
    ∙ sym c.is_small.ensures ∙ c.if-is_small.true in
    every_chunk used_or_zero R.WIDTH 4 c.all.ensures.ran (c.chunks_exact.ensures.size ∙ c.WIDTH-then-is_small.ensures)
    (omega (arith, c.requires.grouped.wide)) (λ x b q k. search rules) t c.chunks_exact.ensures.rest c.requires.long
    ∙ small_left c.requires.grouped 4 t (known_bytes t c.type_inv.four) c.requires.long small

pub returns-else-is_small : goal.returns-else-is_small
returns-else-is_small g c =
    let R = g.R.InRing in
    let chunks = c.chunks_exact-else-is_small.ensures in
    every_chunk R.fine R.WIDTH 4 c.all-else-is_small.ensures.ran (chunks.size ∙ c.WIDTH-else-is_small.ensures)
    (omega (arith, c.requires.grouped.wide)) (λ x b q k. search rules) c.args.four.now chunks.rest c.requires.long
