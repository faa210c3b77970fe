use mathlib.Core.Path.{sym, ap, ◌∙◌}
use lib.ListN.{length}
use native.Mathlib.Omega.{arith}
use Rattle.std.proofs.lemmas.Result.{err_from_is_err_and}
use Rattle.saved.specs.Save.{SavedOn}
use Rattle.saved.proofs.SaveLaws.{refused_tables, refused_room, not_refused, save_done, save_refused}
use Rattle.saved.proofs.saving.save.Goals as goal

pub returns-in_err-check_tables : goal.returns-in_err-check_tables
returns-in_err-check_tables c =
    let a = c.args in
    let p = err_from_is_err_and c.from_residual.result c.from_residual.ensures.1 in
    let bad = c.in_err-check_tables.ensures in
    let e = save_refused a.tables.now a.tally a.room.now 7 (λ q. omega arith) (refused_tables a.tables.now (length a.room.now) bad.1) in
    rw (p.1, p.2, bad.0) (sym (ap (λ (x : SavedOn). x.answer) e), sym (ap (λ (x : SavedOn). x.room) e))

pub returns-then-room-lt-SAVED_SIZE : goal.returns-then-room-lt-SAVED_SIZE
returns-then-room-lt-SAVED_SIZE c =
    let a = c.args in
    let ok = c.in_ok-check_tables.ensures in
    let small = refused_room a.tables.now (length a.room.now) ok c.if-room-lt-SAVED_SIZE.true in
    let e = save_refused a.tables.now a.tally a.room.now 25 (λ q. omega arith) small in
    (sym (ap (λ (x : SavedOn). x.answer) e), sym (ap (λ (x : SavedOn). x.room) e))

pub write_file-requires : goal.write_file-requires
write_file-requires c = (c.in_ok-check_tables.ensures, c.if-room-lt-SAVED_SIZE.false)

pub returns : goal.returns
returns c =
    let a = c.args in
    let ok = c.in_ok-check_tables.ensures in
    let e = save_done a.tables.now a.tally a.room.now (not_refused a.tables.now (length a.room.now) ok c.if-room-lt-SAVED_SIZE.false) in
    (sym (ap (λ (x : SavedOn). x.answer) e), c.write_file.ensures ∙ sym (ap (λ (x : SavedOn). x.room) e))
