use mathlib.Core.Path.{refl, sym, ap, ◌∙◌}
use Rattle.numbers.proofs.RefusalNumbers.{some_number}
use Rattle.packet.specs.Hash.{Hashed}
use Rattle.haskumye.proofs.ExportLaws.{written, untouched}
use Rattle.haskumye.proofs.packets.haskumye_packet_hash.Goals as goal

pub returns-in-Ok : goal.returns-in-Ok
returns-in-Ok c =
    let told = c.in-Ok.ensures in
    written 0 _ (ap (λ (a : Hashed). a.refusal) told) _ c.args.hash.now _ (ap (λ (a : Hashed). a.bytes) told) refl

pub returns-in-Err : goal.returns-in-Err
returns-in-Err c =
    untouched _ _ (c.number.ensures ∙ ap (λ (a : Hashed). a.refusal) c.in-Err.ensures) _ c.args.hash.now (λ z. some_number _ (sym c.number.ensures ∙ z))
