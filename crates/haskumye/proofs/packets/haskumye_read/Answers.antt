use mathlib.Core.Path.{refl, sym, ap, ◌∙◌}
use Rattle.numbers.proofs.RefusalNumbers.{some_number}
use Rattle.packet.specs.Read.{Reading}
use Rattle.crossing.specs.Packets.{parts_bytes}
use Rattle.haskumye.proofs.ExportLaws.{written, untouched}
use Rattle.haskumye.proofs.packets.haskumye_read.Goals as goal

pub returns-in-Ok : goal.returns-in-Ok
returns-in-Ok c =
    let told = c.in-Ok.ensures in
    written 0 _ (ap (λ (a : Reading). a.refusal) told) _ c.args.parts.now c.parts_bytes.result
    (c.parts_bytes.ensures ∙ ap (λ (a : Reading). parts_bytes a.parts) told) refl

pub returns-in-Err : goal.returns-in-Err
returns-in-Err c =
    untouched _ _ (c.number.ensures ∙ ap (λ (a : Reading). a.refusal) c.in-Err.ensures) _ c.args.parts.now (λ z. some_number _ (sym c.number.ensures ∙ z))
