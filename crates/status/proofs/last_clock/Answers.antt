use Rattle.std.proofs.lemmas.Result.{err_from_is_err_and}
use Rattle.tables.proofs.Whole.{formed}
use Rattle.rules.specs.Questions.{the_last_clock}
use Rattle.status.proofs.Asked.{count_refused_7, clock_told}
use Rattle.status.proofs.last_clock.Goals as goal

pub returns-in_err-check_tables : goal.returns-in_err-check_tables
returns-in_err-check_tables c =
    let p = err_from_is_err_and c.from_residual.result c.from_residual.ensures.1 in
    let bad = c.in_err-check_tables.ensures in
    rw (p.1, p.2, bad.0) (count_refused_7 _ the_last_clock bad.1)

pub last_clock-requires : goal.last_clock-requires
last_clock-requires c = (formed _ c.in_ok-check_tables.ensures).size

pub returns : goal.returns
returns c = clock_told _ c.in_ok-check_tables.ensures _ c.last_clock.ensures
