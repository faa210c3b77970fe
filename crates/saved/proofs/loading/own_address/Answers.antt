use native.Mathlib.Omega.{arith}
use mathlib.Core.Path.{sym, ◌∙◌}
use borrow.Author.Tests.{eq-eqb, ne_eqb}
use Rattle.numbers.proofs.RefusalNumbers.{some_number}
use Rattle.octets.proofs.Choice.{then_true, then_false}
use Rattle.tables.specs.Places.{table_size}
use Rattle.saved.specs.Load.{held_in, own_in}
use Rattle.saved.proofs.LoadLaws.{taken}
use Rattle.saved.proofs.loading.own_address.Goals as goal

pub returns-in-Err : goal.returns-in-Err
unfolding own_in
returns-in-Err c = sym (then_false _ _ (ne_eqb _ 0 (λ q. some_number _ (c.in-Err.ensures ∙ q))))

pub address_at-requires : goal.address_at-requires
address_at-requires c = omega (arith, (taken c.args.file.now table_size c.in-Ok.ensures.0).long)

pub returns-in-Ok : goal.returns-in-Ok
unfolding own_in held_in
returns-in-Ok c = c.address_at.ensures ∙ sym (then_true _ _ (eq-eqb _ 0 c.in-Ok.ensures.0))
