use mathlib.Core.Path.{◌∙◌}
use borrow.Author.Tests.{le-ltb, lt-ltb}
use Rattle.std.proofs.lemmas.Result.{err_from_is_err_and}
use Rattle.octets.specs.Choice.{◌then◌otherwise◌}
use Rattle.octets.specs.Listed.{first_of}
use Rattle.octets.proofs.Bytes.{known_bytes}
use Rattle.rules.specs.Relay.{empty}
use Rattle.rules.specs.View.{is_local, local_place}
use Rattle.numbers.specs.Numbers.{local_count}
use Rattle.rules.specs.Calls.{removes, rule_of}
use Rattle.tables.specs.Layout.{relay_of}
use Rattle.tables.proofs.Called.{size_of, call_bad, call_refused_lem, call_done}
use Rattle.lookup.proofs.Found.{found_some, found_below, found_none}
use Rattle.settings.proofs.Answered.{local_set}
use native.Mathlib.Omega.{arith}
use Rattle.settings.proofs.remove_local.Goals as goal

pub returns-in_err-check_tables : goal.returns-in_err-check_tables
returns-in_err-check_tables c =
    let a = c.args in
    let p = err_from_is_err_and c.from_residual.result c.from_residual.ensures.1 in
    let bad = c.in_err-check_tables.ensures in
    rw (p.1, p.2, bad.0) (call_bad (removes a.address) a.tables.now bad.1)

pub local_place-requires : goal.local_place-requires
local_place-requires c = size_of c.args.tables.now c.in_ok-check_tables.ensures

pub returns-in_default : goal.returns-in_default
unfolding is_local rule_of first_of ◌then◌otherwise◌
returns-in_default c =
    let a = c.args in
    let t = a.tables.now in
    let ok = c.in_ok-check_tables.ensures in
    let none = le-ltb (local_place (relay_of t) a.address) local_count (found_none c.in_default.ensures) in
    call_refused_lem (removes a.address) t ok (known_bytes t c.slice_known-1.given) 11 (λ e. omega arith) (rw none)

pub empty_place-requires : goal.empty_place-requires
empty_place-requires c =
    (size_of c.args.tables.now c.in_ok-check_tables.ensures, found_below _ c.in-Some.ensures)

pub returns : goal.returns
unfolding is_local rule_of first_of ◌then◌otherwise◌
returns c =
    let a = c.args in
    let t = a.tables.now in
    let ok = c.in_ok-check_tables.ensures in
    let (place, within) = found_some c.in-Some.ensures in
    let there = lt-ltb (local_place (relay_of t) a.address) local_count (omega (arith, place, within)) in
    let after = c.empty_place.ensures ∙ local_set t ok (known_bytes t c.slice_known-1.given) empty _
    (local_place (relay_of t) a.address) place within in
    call_done (removes a.address) t ok (rw there) after
