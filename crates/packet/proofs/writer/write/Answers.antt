use Rattle.std.proofs.Common.{refl, sym, ◌∙◌, arith, rules}
use Rattle.std.proofs.lemmas.Result.{err_from_is_err_and}
use Rattle.numbers.proofs.RefusalNumbers.{some_number}
use Rattle.packet.specs.Write.{Wide}
use Rattle.packet.proofs.ReadLaws.{start_most}
use Rattle.packet.proofs.WriteLaws.{packet_length, writable, writing_done, writing_refused}
use Rattle.packet.proofs.writer.write.Goals as goal

pub returns-in_err-check_writing : goal.returns-in_err-check_writing
returns-in_err-check_writing c =
    let a = c.args in
    let p = err_from_is_err_and c.from_residual.result c.from_residual.ensures.1 in
    let number = c.in_err-check_writing.ensures in
    rw (p.1, p.2, number, writing_refused a.parts a.payload.now a.output.now (λ e. some_number _ (number ∙ e))) (refl, refl)

pub write_packet-requires : goal.write_packet-requires
write_packet-requires c =
    let a = c.args in
    let wide : Wide a.parts = record { relay = search rules; destination = search rules } in
    let able = writable _ _ _ (sym c.in_ok-check_writing.ensures) in
    omega (arith, able.roomy, able.fits, packet_length a.parts a.payload.now wide)

pub overflow_add-result : goal.overflow_add-result
overflow_add-result c = record { fits = omega (arith, start_most c.args.parts.header, c.payload_start.ensures) }

pub returns : goal.returns
returns c =
    let a = c.args in
    let wide : Wide a.parts = record { relay = search rules; destination = search rules } in
    let zero = sym c.in_ok-check_writing.ensures in
    rw (writing_done a.parts a.payload.now a.output.now zero, c.write_packet.ensures, c.payload_start.ensures, packet_length a.parts a.payload.now wide)
    (refl, refl)
