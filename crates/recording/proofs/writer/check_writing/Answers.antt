use Rattle.std.proofs.Common.{sym, ◌∙◌}
use Rattle.std.proofs.lemmas.Result.{err_from_is_err_and}
use Rattle.numbers.proofs.RefusalNumbers.{some_number}
use Rattle.recording.proofs.WriteLaws.{heads_decide, lengths_decide}
use Rattle.recording.proofs.writer.check_writing.Goals as goal

pub returns-in_err-check_heads : goal.returns-in_err-check_heads
returns-in_err-check_heads c =
    let a = c.args in
    let p = err_from_is_err_and c.from_residual.result c.from_residual.ensures.1 in
    let heads = c.in_err-check_heads.ensures in
    rw (p.1, p.2) (heads ∙ sym (heads_decide a.entries.now a.bodies.now a.room (λ q. some_number _ (heads ∙ q))))

pub returns : goal.returns
returns c =
    let a = c.args in
    c.check_lengths.ensures ∙ sym (lengths_decide a.entries.now a.bodies.now a.room (sym c.in_ok-check_heads.ensures))
