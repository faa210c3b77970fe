use Rattle.std.proofs.lemmas.Grind.{common_steps}
use native.Mathlib.Omega.{arith}
use borrow.Author.Tests.{tests}
use Prim.Native.Nat.{ℕ}
use mathlib.Core.Bool.{true}
use mathlib.Core.Path.{sym, ap, ◌∙◌}
use Rattle.octets.specs.Index.{zeros}
use Rattle.tables.specs.Places.{local_width}
use Rattle.tables.proofs.Tests.{slot_unused, slot_used, local_test}
use Rattle.tables.proofs.record_check.local_ok.Goals as goal

pub returns-then-b-eq1 : goal.returns-then-b-eq1
returns-then-b-eq1 c = rw (local_test c.args.b.now, slot_used local_width (λ s. true) c.args.b.now c.if-b-eq1.true) (grind (arith, common_steps, tests))

pub returns-else-b-eq1 : goal.returns-else-b-eq1
returns-else-b-eq1 c =
    let b = c.args.b.now in
    c.is_zero.ensures ∙ ap (λ (k : ℕ). zeros k b) c.requires ∙ sym (local_test b ∙ slot_unused local_width _ b (omega arith) c.if-b-eq1.false)
