use mathlib.Core.Path.{sym, ◌∙◌}
use borrow.Author.Tests.{le-leb, lt-leb}
use Rattle.std.proofs.lemmas.Result.{err_from_is_err_and}
use Rattle.octets.specs.Choice.{◌then◌otherwise◌}
use Rattle.octets.specs.Listed.{first_of}
use Rattle.octets.proofs.Bytes.{known_bytes}
use Rattle.rules.specs.Relay.{used}
use Rattle.rules.specs.Refusals.{empty_local}
use Rattle.numbers.specs.Numbers.{local_count}
use Rattle.rules.specs.Calls.{adds, rule_of}
use Rattle.tables.specs.Layout.{relay_of}
use Rattle.tables.proofs.Called.{size_of, call_bad, call_refused_lem, call_done}
use Rattle.lookup.proofs.Found.{found_some, found_below, found_none}
use Rattle.settings.proofs.Answered.{local_set}
use native.Mathlib.Omega.{arith}
use Rattle.settings.proofs.add_local.Goals as goal

pub returns-in_err-check_tables : goal.returns-in_err-check_tables
returns-in_err-check_tables c =
    let a = c.args in
    let p = err_from_is_err_and c.from_residual.result c.from_residual.ensures.1 in
    let bad = c.in_err-check_tables.ensures in
    rw (p.1, p.2, bad.0) (call_bad (adds a.address) a.tables.now bad.1)

pub is_local-requires : goal.is_local-requires
is_local-requires c = size_of c.args.tables.now c.in_ok-check_tables.ensures

pub returns-then-is_local : goal.returns-then-is_local
unfolding rule_of first_of ◌then◌otherwise◌
returns-then-is_local c =
    let a = c.args in
    let t = a.tables.now in
    let ok = c.in_ok-check_tables.ensures in
    call_refused_lem (adds a.address) t ok (known_bytes t c.slice_known-1.given) 11 (λ e. omega arith)
    (rw (sym c.is_local.ensures ∙ c.if-is_local.true))

pub empty_local-requires : goal.empty_local-requires
empty_local-requires c = size_of c.args.tables.now c.in_ok-check_tables.ensures

pub returns-in_default : goal.returns-in_default
unfolding rule_of first_of ◌then◌otherwise◌
returns-in_default c =
    let a = c.args in
    let t = a.tables.now in
    let ok = c.in_ok-check_tables.ensures in
    let new = sym c.is_local.ensures ∙ c.if-is_local.false in
    let full = le-leb local_count (empty_local (relay_of t)) (found_none c.in_default.ensures) in
    call_refused_lem (adds a.address) t ok (known_bytes t c.slice_known-1.given) 10 (λ e. omega arith) (rw (new, full))

pub put_local-requires : goal.put_local-requires
put_local-requires c =
    (size_of c.args.tables.now c.in_ok-check_tables.ensures, found_below _ c.in-Some.ensures)

pub returns : goal.returns
unfolding rule_of first_of ◌then◌otherwise◌
returns c =
    let a = c.args in
    let t = a.tables.now in
    let ok = c.in_ok-check_tables.ensures in
    let new = sym c.is_local.ensures ∙ c.if-is_local.false in
    let (place, within) = found_some c.in-Some.ensures in
    let room = lt-leb local_count (empty_local (relay_of t)) (omega (arith, place, within)) in
    let after = c.put_local.ensures ∙ local_set t ok (known_bytes t c.slice_known-1.given) (used a.address) _
    (empty_local (relay_of t)) place within in
    call_done (adds a.address) t ok (rw (new, room)) after
