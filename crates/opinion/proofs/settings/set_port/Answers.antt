use Rattle.std.proofs.Common.{arith}
use borrow.Author.Tests.{tests}
use Rattle.history.specs.Opinion.{call_rows}
use Rattle.octets.specs.Listed.{first_of}
use Rattle.octets.specs.Choice.{◌then◌otherwise◌}
use borrow.Author.Tests.{eqb-false}
use Rattle.std.proofs.Common.{refl}
use Rattle.std.proofs.lemmas.Result.{err_from_is_err_and}
use Rattle.opinion.proofs.Settled.{full, refused, accepted}
use Rattle.std.proofs.Common.{◌<◌, sym, ◌∙◌}
use borrow.Author.Tests.{not-false, leb-false}
use Rattle.octets.proofs.Choice.{or_no_left, or_no_right}
use Rattle.numbers.specs.Numbers.{port_count, mode_count}
use Rattle.packet.proofs.ReadLaws.{size_most}
use Rattle.opinion.proofs.settings.set_port.Goals as goal

pub returns-in_err-n : goal.returns-in_err-n
returns-in_err-n c =
    let p = err_from_is_err_and c.from_residual.result c.from_residual.ensures.1 in
    rw (p.1, p.2, c.in_err-n.ensures.0) (full _ _ c.in_err-n.ensures.1)

pub returns-then-setting_bad : goal.returns-then-setting_bad
unfolding call_rows first_of ◌then◌otherwise◌
returns-then-setting_bad c = refused _ _ (omega (arith, c.in_ok-n.ensures.0, c.in_ok-n.ensures.1)) 9 (grind (arith, tests)) (eqb-false 9 0 refl)

pub overflow_cast-settings : goal.overflow_cast-settings
unfolding call_rows first_of ◌then◌otherwise◌
overflow_cast-settings c =
    let fine = sym c.setting_bad.ensures ∙ c.if-setting_bad.false in
    let small : c.args.mode < mode_count = leb-false _ _ (or_no_left _ _ (or_no_right _ _ fine)) in
    record { fits = omega arith }

pub overflow_cast-port : goal.overflow_cast-port
unfolding call_rows first_of ◌then◌otherwise◌
overflow_cast-port c =
    let fine = sym c.setting_bad.ensures ∙ c.if-setting_bad.false in
    let small : c.args.port < port_count = leb-false _ _ (or_no_left _ _ fine) in
    record { fits = omega arith }

pub put-requires : goal.put-requires
unfolding call_rows first_of ◌then◌otherwise◌
put-requires c =
    let fine = sym c.setting_bad.ensures ∙ c.if-setting_bad.false in
    (c.in_ok-n.ensures.1, (leb-false _ _ (or_no_left _ _ fine), size_most _ (not-false _ (or_no_right _ _ (or_no_right _ _ fine)))))

pub returns : goal.returns
unfolding call_rows first_of ◌then◌otherwise◌
returns c = accepted _ _ (omega (arith, c.in_ok-n.ensures.0, c.in_ok-n.ensures.1)) (grind (arith, tests)) _ c.in_ok-n.ensures.0 _ c.put.ensures
