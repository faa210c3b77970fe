use mathlib.Core.Path.{ap, ◌∙◌}
use native.Mathlib.Omega.{arith}
use Rattle.numbers.specs.Refusals.{written_as}
use Rattle.packet.specs.Write.{Writing, writing}
use Rattle.packet.specs.declared.Parts.{Parts}
use Rattle.crossing.specs.Packets.{written_number}
use Rattle.haskumye.proofs.ExportLaws.{written_most}
use Rattle.haskumye.proofs.packets.haskumye_write.Goals as goal

-- what is written is at most 500 bytes
pub written_number-requires : goal.written_number-requires
written_number-requires c =
    let a = c.args in
    omega (arith, written_most (written_as c.write.result) c.type_two_parts.result a.payload.now a.output.now c.write.ensures.0)

pub returns : goal.returns
returns c =
    let a = c.args in
    let whole : Parts → Writing = λ (q : Parts). writing q a.payload.now a.output.now in
    let same = ap whole c.type_two_parts.ensures in (
      c.written_number.ensures ∙ ap written_number (c.write.ensures.0 ∙ ap (λ (x : Writing). x.answer) same),
      c.write.ensures.1 ∙ ap (λ (x : Writing). x.output) same,
    )
