use native.Mathlib.Omega.{arith}
use Rattle.std.proofs.lemmas.Result.{err_from_is_err_and}
use Rattle.tables.proofs.Whole.{formed}
use Rattle.rules.specs.Questions.{live_returns}
use Rattle.status.proofs.Asked.{count_refused_7, returns_told}
use Rattle.status.proofs.live_returns.Goals as goal

pub returns-in_err-check_tables : goal.returns-in_err-check_tables
returns-in_err-check_tables c =
    let p = err_from_is_err_and c.from_residual.result c.from_residual.ensures.1 in
    let bad = c.in_err-check_tables.ensures in
    rw (p.1, p.2, bad.0) (count_refused_7 _ (live_returns _) bad.1)

pub live_count-requires : goal.live_count-requires
live_count-requires c =
    let size = (formed _ c.in_ok-check_tables.ensures).size in
    (omega arith, omega arith)

pub returns : goal.returns
returns c = returns_told _ c.in_ok-check_tables.ensures _ _ c.live_count.ensures
