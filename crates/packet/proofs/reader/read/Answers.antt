use Rattle.std.proofs.Common.{refl, sym}
use Rattle.std.proofs.lemmas.Result.{err_from_is_err_and}
use Rattle.numbers.proofs.RefusalNumbers.{some_number}
use Rattle.packet.proofs.ReadLaws.{readable, answer_refused, answer_read}
use Rattle.packet.proofs.reader.read.Goals as goal

pub returns-in_err-check : goal.returns-in_err-check
returns-in_err-check c =
    let p = err_from_is_err_and c.from_residual.result c.from_residual.ensures.1 in
    rw (p.1, p.2) (answer_refused _ _ _ _ c.in_err-check.ensures (some_number _) refl)

pub parts_of-requires : goal.parts_of-requires
parts_of-requires c = (readable _ _ (sym c.in_ok-check.ensures)).whole

pub returns : goal.returns
returns c = answer_read _ _ _ (sym c.in_ok-check.ensures) c.parts_of.ensures
