use Prim.Native.Nat.{◌*◌}
use lib.ListN.{take, drop}
use mathlib.Core.Path.{sym, ap, ◌∙◌}
use Rattle.octets.proofs.Index.{and_yes, and_no}
use Rattle.tables.specs.Layout.{records_ok}
use Rattle.tables.specs.Groups.{plain}
use Rattle.tables.proofs.Chunks.{two_groups}
use Rattle.tables.proofs.ring_check.eight_plain.Goals as goal

pub returns-then-four_plain : goal.returns-then-four_plain
returns-then-four_plain g c =
    let R = g.R.InRing in
    let p = plain R.WORD_AT R.small in
    let t = c.args.eight.now in
    let width = c.WIDTH.ensures in
    let front = c.split_at.ensures.front ∙ (λ i. take (width i * 4) t) in
    let back = c.split_at.ensures.back ∙ (λ i. drop (width i * 4) t) in
    c.four_plain-then-four_plain.ensures ∙ ap (records_ok p 0 R.WIDTH 4) back
    ∙ sym (and_yes _ (ap (records_ok p 0 R.WIDTH 4) (sym front) ∙ sym c.four_plain.ensures ∙ c.if-four_plain.true))
    ∙ two_groups p R.WIDTH 4 t c.requires.long

pub returns-else-four_plain : goal.returns-else-four_plain
returns-else-four_plain g c =
    let R = g.R.InRing in
    let p = plain R.WORD_AT R.small in
    let t = c.args.eight.now in
    let width = c.WIDTH.ensures in
    let front = c.split_at.ensures.front ∙ (λ i. take (width i * 4) t) in
    c.if-four_plain.false
    ∙ sym (and_no _ (ap (records_ok p 0 R.WIDTH 4) (sym front) ∙ sym c.four_plain.ensures ∙ c.if-four_plain.false))
    ∙ two_groups p R.WIDTH 4 t c.requires.long
