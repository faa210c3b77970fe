use Rattle.opinion.proofs.Settled.{row_full, row_room, row_port, row_clock, row_read}
use Rattle.std.proofs.lemmas.Result.{err_from_is_err_and}
use Rattle.opinion.specs.Steps.{arrival_by}
use Rattle.rules.specs.Relay.{Port}
use Rattle.packet.specs.Read.{reading_refusal}
use mathlib.Core.Bool.{not}
use mathlib.Core.Path.{sym, ap, ◌∙◌}
use native.Mathlib.Omega.{arith}
use Rattle.opinion.proofs.refusing.check_packet.Goals as goal

pub returns-in_err-n : goal.returns-in_err-n
returns-in_err-n c signed =
    let p = err_from_is_err_and c.from_residual.result c.from_residual.ensures.1 in
    rw (p.1, p.2, c.in_err-n.ensures.0)
    (row_full c.args.log.now _ (arrival_by c.args.packet.now c.args.port c.args.clock signed) c.args.room c.in_err-n.ensures.1)

pub returns-then-room-lt-LEAST_OUTPUT : goal.returns-then-room-lt-LEAST_OUTPUT
returns-then-room-lt-LEAST_OUTPUT c signed =
    rw (sym c.in_ok-n.ensures.0)
    (row_room c.args.log.now _ (arrival_by c.args.packet.now c.args.port c.args.clock signed) c.args.room c.in_ok-n.ensures.1 (omega arith))

pub returns-then-not-settings : goal.returns-then-not-settings
returns-then-not-settings c signed =
    rw (sym c.in_ok-n.ensures.0)
    (row_port c.args.log.now _ (arrival_by c.args.packet.now c.args.port c.args.clock signed) c.args.room c.in_ok-n.ensures.1 (omega arith)
    (ap (λ (p : Port). not p.on) (sym c.port_at-settings.ensures) ∙ c.if-not-settings.true))

pub returns-then-clock_bad : goal.returns-then-clock_bad
returns-then-clock_bad c signed =
    rw (sym c.in_ok-n.ensures.0)
    (row_clock c.args.log.now _ (arrival_by c.args.packet.now c.args.port c.args.clock signed) c.args.room c.in_ok-n.ensures.1 (omega arith)
    (ap (λ (p : Port). not p.on) (sym c.port_at-settings.ensures) ∙ c.if-not-settings.false)
    (sym c.clock_bad.ensures ∙ c.if-clock_bad.true))

pub returns : goal.returns
returns c signed =
    rw (sym c.in_ok-n.ensures.0)
    (c.check.ensures
    ∙ ap (λ (p : Port). reading_refusal p.size c.args.packet.now) c.port_at-settings.ensures
    ∙ row_read c.args.log.now _ (arrival_by c.args.packet.now c.args.port c.args.clock signed) c.args.room c.in_ok-n.ensures.1 (omega arith)
    (ap (λ (p : Port). not p.on) (sym c.port_at-settings.ensures) ∙ c.if-not-settings.false)
    (sym c.clock_bad.ensures ∙ c.if-clock_bad.false))
