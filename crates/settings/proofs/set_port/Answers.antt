use mathlib.Core.Bool.{not}
use mathlib.Core.Path.{sym, ap, ◌∙◌}
use native.Mathlib.Omega.{arith}
use borrow.Author.Tests.{le-leb, lt-leb}
use Rattle.std.proofs.lemmas.Result.{err_from_is_err_and}
use Rattle.octets.specs.Choice.{◌then◌otherwise◌}
use Rattle.octets.specs.Listed.{first_of}
use Rattle.octets.proofs.Bytes.{known_bytes}
use Rattle.octets.proofs.Choice.{or_left, or_right, or_no}
use Rattle.rules.specs.Calls.{sets_port, rule_of}
use Rattle.tables.proofs.Called.{size_of, call_bad, call_refused_lem, call_done}
use Rattle.settings.proofs.Answered.{port_set_lem}
use Rattle.settings.proofs.set_port.Goals.{then-port-via-then-port, then-port-via-else-port+then-mode, then-port-via-else-port+else-mode+then-not-is_size}
use Rattle.settings.proofs.set_port.Goals as goal

pub returns-in_err-check_tables : goal.returns-in_err-check_tables
returns-in_err-check_tables c =
    let a = c.args in
    let p = err_from_is_err_and c.from_residual.result c.from_residual.ensures.1 in
    let bad = c.in_err-check_tables.ensures in
    rw (p.1, p.2, bad.0) (call_bad (sets_port a.port a.on a.mode a.size) a.tables.now bad.1)

pub returns-then-port : goal.returns-then-port
unfolding rule_of first_of ◌then◌otherwise◌
returns-then-port c =
    let a = c.args in
    let t = a.tables.now in
    let ok = c.in_ok-check_tables.ensures in
    call_refused_lem (sets_port a.port a.on a.mode a.size) t ok (known_bytes t c.slice_known-1.given) 9 (λ e. omega arith)
    (elim c.then-port.branch [
      | then-port-via-then-port w ↦ rw (or_left _ (le-leb _ _ w.if-port.true))
      | then-port-via-else-port+then-mode w ↦ rw (or_right _ (or_left _ (le-leb _ _ w.if-mode.true)))
      | then-port-via-else-port+else-mode+then-not-is_size w ↦
          rw (or_right _ (or_right _ (ap not (sym w.is_size.ensures ∙ w.if-not-is_size.true))))
    ])

pub put_port-requires : goal.put_port-requires
put_port-requires c =
    let ok = c.in_ok-check_tables.ensures in
    (size_of c.args.tables.now ok, c.if-port.false)

pub returns : goal.returns
unfolding rule_of first_of ◌then◌otherwise◌
returns c =
    let a = c.args in
    let t = a.tables.now in
    let ok = c.in_ok-check_tables.ensures in
    let sized = ap not (sym c.is_size.ensures) ∙ (ap not c.if-not-is_size.false) in
    let after =
    c.put_port.ensures
    ∙ port_set_lem t ok (known_bytes t c.slice_known-1.given) a.port a.on a.mode a.size c.if-port.false in
    call_done (sets_port a.port a.on a.mode a.size) t ok
    (rw (or_no (lt-leb _ _ c.if-port.false) (or_no (lt-leb _ _ c.if-mode.false) sized))) after
