use Rattle.std.proofs.lemmas.Result.{err_from_is_err_and}
use Rattle.octets.proofs.Bytes.{known_bytes}
use Rattle.tables.proofs.Whole.{formed}
use Rattle.rules.specs.Questions.{path_at}
use Rattle.status.proofs.Asked.{refused_7, no_path_lem, path_told}
use native.Mathlib.Omega.{arith}
use Rattle.status.proofs.path_at.Goals as goal

pub returns-in_err-check_tables : goal.returns-in_err-check_tables
returns-in_err-check_tables c =
    let p = err_from_is_err_and c.from_residual.result c.from_residual.ensures.1 in
    let bad = c.in_err-check_tables.ensures in
    rw (p.1, p.2, bad.0) (refused_7 _ (path_at _) bad.1)

pub returns-then-place : goal.returns-then-place
returns-then-place c = no_path_lem _ c.in_ok-check_tables.ensures _ c.if-place.true

pub record_told-requires : goal.record_told-requires
record_told-requires c =
    let size = (formed _ c.in_ok-check_tables.ensures).size in
    (omega arith, omega arith)

pub returns : goal.returns
returns c =
    let t = c.args.tables.now in
    rw c.record_told.ensures (path_told t c.in_ok-check_tables.ensures (known_bytes t c.type_inv.tables) c.args.place c.if-place.false)
