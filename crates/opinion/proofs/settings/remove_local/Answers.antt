use Rattle.std.proofs.Common.{arith}
use borrow.Author.Tests.{tests}
use Rattle.history.specs.Opinion.{call_rows}
use Rattle.octets.specs.Listed.{first_of}
use Rattle.octets.specs.Choice.{◌then◌otherwise◌}
use borrow.Author.Tests.{eqb-false}
use Rattle.std.proofs.Common.{refl}
use Rattle.std.proofs.lemmas.Result.{err_from_is_err_and}
use Rattle.opinion.proofs.Settled.{full, refused, accepted}
use Rattle.opinion.proofs.settings.remove_local.Goals as goal

pub returns-in_err-n : goal.returns-in_err-n
returns-in_err-n c =
    let p = err_from_is_err_and c.from_residual.result c.from_residual.ensures.1 in
    rw (p.1, p.2, c.in_err-n.ensures.0) (full _ _ c.in_err-n.ensures.1)

pub returns-then-not-is_local : goal.returns-then-not-is_local
unfolding call_rows first_of ◌then◌otherwise◌
returns-then-not-is_local c = refused _ _ (omega (arith, c.in_ok-n.ensures.0, c.in_ok-n.ensures.1)) 11 (grind (arith, tests)) (eqb-false 11 0 refl)

pub returns : goal.returns
unfolding call_rows first_of ◌then◌otherwise◌
returns c = accepted _ _ (omega (arith, c.in_ok-n.ensures.0, c.in_ok-n.ensures.1)) (grind (arith, tests)) _ c.in_ok-n.ensures.0 _ c.put.ensures
