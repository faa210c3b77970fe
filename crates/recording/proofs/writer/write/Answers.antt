use mathlib.Core.Path.{refl, sym, ap, ◌∙◌}
use Rattle.std.proofs.lemmas.Result.{err_from_is_err_and}
use Rattle.numbers.proofs.RefusalNumbers.{some_number}
use Prim.Native.Nat.{ℕ, ◌+◌}
use lib.ListN.{length}
use native.Mathlib.Omega.{arith}
use Rattle.recording.specs.Shape.{entry_place}
use Rattle.recording.specs.Format.{head_width}
use Rattle.recording.specs.Writer.{file_length, Writing}
use Rattle.recording.proofs.WriteLaws.{writable, written_few, writing_done, writing_refused}
use Rattle.recording.proofs.writer.write.Goals as goal

pub returns-in_err-check_writing : goal.returns-in_err-check_writing
returns-in_err-check_writing c =
    let a = c.args in
    let p = err_from_is_err_and c.from_residual.result c.from_residual.ensures.1 in
    let refusal = c.in_err-check_writing.ensures in
    rw (p.1, p.2, refusal, writing_refused a.entries.now a.bodies.now a.room.now (λ q. some_number _ (refusal ∙ q))) (refl, refl)

pub entry_place-requires : goal.entry_place-requires
entry_place-requires c =
    let a = c.args in
    let zero = sym c.in_ok-check_writing.ensures in
    let w = writable a.entries.now a.bodies.now (length a.room.now) zero in
    omega (arith, written_few w, c.given_count.ensures)

pub overflow_add-result : goal.overflow_add-result
unfolding file_length
overflow_add-result c =
    let a = c.args in
    let zero = sym c.in_ok-check_writing.ensures in
    let w = writable a.entries.now a.bodies.now (length a.room.now) zero in
    record { fits = omega (arith, w.short, c.given_count.ensures, c.entry_place.ensures) }

pub returns : goal.returns
unfolding file_length
returns c =
    let a = c.args in
    let zero = sym c.in_ok-check_writing.ensures in
    let done = writing_done a.entries.now a.bodies.now a.room.now zero in
    let at = c.entry_place.ensures ∙ ap (entry_place head_width) c.given_count.ensures in
    let long = ap (λ (k : ℕ). k + length a.bodies.now) at in
    let answer = ap (λ (k : ℕ). record { refusal = 0; length = k }) long ∙ sym (ap (λ (w : Writing). w.answer) done) in
    (answer, c.write_file.ensures ∙ sym (ap (λ (w : Writing). w.room) done))
