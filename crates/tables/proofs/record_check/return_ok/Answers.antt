use Rattle.std.proofs.lemmas.Grind.{common_steps}
use native.Mathlib.Omega.{arith}
use borrow.Author.Tests.{tests}
use Prim.Native.Nat.{ℕ}
use mathlib.Core.Path.{sym, ap, ◌∙◌}
use Rattle.octets.specs.Index.{zeros, ◌and◌}
use Rattle.rules.specs.Refusals.{time_ok, return_ok}
use Rattle.tables.specs.Places.{return_width}
use Rattle.tables.specs.Records.{return_of}
use Rattle.tables.proofs.Tests.{slot_unused, slot_used, two_ports, return_test}
use Rattle.tables.proofs.record_check.return_ok.Goals as goal

pub returns-then-b-ne1 : goal.returns-then-b-ne1
returns-then-b-ne1 c =
    let b = c.args.b.now in
    c.is_zero.ensures ∙ ap (λ (k : ℕ). zeros k b) c.requires ∙ sym (return_test b ∙ slot_unused return_width _ b (omega arith) c.if-b-ne1.true)

pub returns-then-b : goal.returns-then-b
unfolding return_ok return_of time_ok ◌and◌
returns-then-b c = rw (return_test _, slot_used return_width _ _ c.if-b-ne1.false, two_ports) (grind (arith, common_steps, tests))

pub returns-else-b : goal.returns-else-b
unfolding return_ok return_of time_ok ◌and◌
returns-else-b c = rw (return_test _, slot_used return_width _ _ c.if-b-ne1.false, two_ports) (grind (arith, common_steps, tests))
