use mathlib.Core.Path.{sym, ap, ◌∙◌}
use mathlib.Core.Bool.{not}
use Rattle.std.proofs.lemmas.Result.{err_from_is_err_and}
use Rattle.octets.specs.Choice.{◌then◌otherwise◌}
use Rattle.octets.specs.Listed.{first_of}
use Rattle.octets.proofs.Bytes.{known_bytes}
use Rattle.rules.specs.Calls.{sets_rate, rule_of}
use Rattle.tables.proofs.Called.{size_of, call_bad, call_refused_lem, call_done}
use Rattle.settings.proofs.Answered.{rate_set}
use native.Mathlib.Omega.{arith}
use Rattle.settings.proofs.set_rate.Goals as goal

pub returns-in_err-check_tables : goal.returns-in_err-check_tables
returns-in_err-check_tables c =
    let a = c.args in
    let p = err_from_is_err_and c.from_residual.result c.from_residual.ensures.1 in
    let bad = c.in_err-check_tables.ensures in
    rw (p.1, p.2, bad.0) (call_bad (sets_rate a.target a.grace a.penalty) a.tables.now bad.1)

pub returns-then-not-rate_within : goal.returns-then-not-rate_within
unfolding rule_of first_of ◌then◌otherwise◌
returns-then-not-rate_within c =
    let a = c.args in
    let t = a.tables.now in
    let ok = c.in_ok-check_tables.ensures in
    call_refused_lem (sets_rate a.target a.grace a.penalty) t ok (known_bytes t c.slice_known-1.given) 9 (λ e. omega arith)
    (rw (ap not (sym c.rate_within.ensures) ∙ (ap not c.if-not-rate_within.true)))

pub put_rate-requires : goal.put_rate-requires
put_rate-requires c = size_of c.args.tables.now c.in_ok-check_tables.ensures

pub returns : goal.returns
unfolding rule_of first_of ◌then◌otherwise◌
returns c =
    let a = c.args in
    let t = a.tables.now in
    let ok = c.in_ok-check_tables.ensures in
    let after = c.put_rate.ensures
    ∙ rate_set t ok (known_bytes t c.slice_known-1.given) a.target a.grace a.penalty in
    call_done (sets_rate a.target a.grace a.penalty) t ok (rw (ap not (sym c.rate_within.ensures) ∙ (ap not c.if-not-rate_within.false))) after
