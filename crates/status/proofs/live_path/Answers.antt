use Rattle.std.proofs.lemmas.Result.{err_from_is_err_and}
use mathlib.Core.Path.{refl}
use Rattle.octets.proofs.Bytes.{known_bytes}
use Rattle.tables.proofs.Whole.{formed}
use Rattle.rules.specs.Questions.{live_path}
use Rattle.lookup.proofs.Found.{found_some, found_below, found_none}
use Rattle.status.proofs.Asked.{refused_7, no_live_path, live_path_told}
use native.Mathlib.Omega.{arith}
use Rattle.status.proofs.live_path.Goals as goal

pub returns-in_err-check_tables : goal.returns-in_err-check_tables
returns-in_err-check_tables c =
    let p = err_from_is_err_and c.from_residual.result c.from_residual.ensures.1 in
    let bad = c.in_err-check_tables.ensures in
    rw (p.1, p.2, bad.0) (refused_7 _ (live_path _ _) bad.1)

pub path_place-requires : goal.path_place-requires
path_place-requires c = (formed _ c.in_ok-check_tables.ensures).size

pub returns-in_default : goal.returns-in_default
returns-in_default c =
    no_live_path _ c.in_ok-check_tables.ensures _ _ _ refl (found_none c.in_default.ensures)

pub record_told-requires : goal.record_told-requires
record_told-requires c =
    let size = (formed _ c.in_ok-check_tables.ensures).size in
    let within = found_below _ c.in-Some.ensures in
    (omega arith, omega arith)

pub returns : goal.returns
returns c =
    let a = c.args in
    let t = a.tables.now in
    let (place, within) = found_some c.in-Some.ensures in
    rw c.record_told.ensures
    (live_path_told t c.in_ok-check_tables.ensures (known_bytes t c.type_inv.tables) a.destination a.clock _ place within)
