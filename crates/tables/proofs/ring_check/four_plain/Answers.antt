use Prim.Native.Nat.{◌+◌, ◌*◌}
use lib.ListN.{get_or}
use lib.Dec.{eqb}
use mathlib.Core.Path.{sym, ap, ◌∙◌}
use Rattle.octets.specs.Index.{all_below}
use Rattle.octets.specs.Part.{part}
use Rattle.octets.specs.BigEndian.{number, word_width}
use Rattle.octets.proofs.Index.{and_yes, and_no}
use Rattle.tables.specs.Groups.{together}
use Rattle.tables.proofs.Plain.{plain_apart}
use Rattle.tables.proofs.ring_check.four_plain.Goals as goal

pub returns-then-four_marked : goal.returns-then-four_marked
returns-then-four_marked g c =
    let R = g.R.InRing in
    let t = c.args.four.now in
    let width = sym c.WIDTH.ensures in
    c.is_small.ensures
    ∙ ap R.small
    (c.four_together.ensures ∙ (λ i. together (λ k. number (part t (c.WORD_AT.ensures i + c.WIDTH-then-four_marked.ensures i * k) word_width)) 4))
    ∙ c.requires.grouped.at_once _ 4
    ∙ sym (plain_apart R.small R.WORD_AT R.WIDTH 4 t c.requires.grouped.within
    ∙ and_yes _ ((λ i. all_below (λ k. eqb (get_or t (width i * k) 0) 1) 4) ∙ sym c.four_marked.ensures ∙ c.if-four_marked.true))

pub returns-else-four_marked : goal.returns-else-four_marked
returns-else-four_marked g c =
    let R = g.R.InRing in
    let t = c.args.four.now in
    let width = sym c.WIDTH.ensures in
    c.if-four_marked.false
    ∙ sym (plain_apart R.small R.WORD_AT R.WIDTH 4 t c.requires.grouped.within
    ∙ and_no _ ((λ i. all_below (λ k. eqb (get_or t (width i * k) 0) 1) 4) ∙ sym c.four_marked.ensures ∙ c.if-four_marked.false))
