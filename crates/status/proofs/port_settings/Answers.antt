use mathlib.Core.Path.{◌∙◌}
use Rattle.std.proofs.lemmas.Result.{err_from_is_err_and}
use Rattle.octets.proofs.Bytes.{known_bytes}
use Rattle.tables.proofs.Whole.{formed}
use Rattle.rules.specs.Questions.{port_settings}
use Rattle.status.proofs.Asked.{refused_7, no_port_lem, port_told}
use native.Mathlib.Omega.{arith}
use Rattle.status.proofs.port_settings.Goals as goal

pub returns-in_err-check_tables : goal.returns-in_err-check_tables
returns-in_err-check_tables c =
    let p = err_from_is_err_and c.from_residual.result c.from_residual.ensures.1 in
    let bad = c.in_err-check_tables.ensures in
    rw (p.1, p.2, bad.0) (refused_7 _ (port_settings _) bad.1)

pub returns-then-port : goal.returns-then-port
returns-then-port c = no_port_lem _ c.in_ok-check_tables.ensures _ c.if-port.true

pub record_at-requires : goal.record_at-requires
record_at-requires c =
    let size = (formed _ c.in_ok-check_tables.ensures).size in
    omega arith

pub returns : goal.returns
returns c =
    let t = c.args.tables.now in
    rw (c.copy_from_slice.ensures.after ∙ c.record_at.ensures.0)
    (port_told t c.in_ok-check_tables.ensures (known_bytes t c.type_inv.tables) c.args.port c.if-port.false)
