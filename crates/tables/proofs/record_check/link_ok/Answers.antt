use Rattle.std.proofs.lemmas.Grind.{common_steps}
use native.Mathlib.Omega.{arith}
use borrow.Author.Tests.{tests}
use Prim.Native.Nat.{ℕ}
use mathlib.Core.Path.{sym, ap, ◌∙◌}
use Rattle.octets.specs.Index.{zeros, ◌and◌}
use Rattle.rules.specs.Refusals.{time_ok, link_ok}
use Rattle.tables.specs.Places.{link_width}
use Rattle.tables.specs.Records.{link_of}
use Rattle.tables.proofs.Tests.{slot_unused, slot_used, two_ports, link_test}
use Rattle.tables.proofs.record_check.link_ok.Goals as goal

pub returns-then-b-ne1 : goal.returns-then-b-ne1
returns-then-b-ne1 c =
    let b = c.args.b.now in
    c.is_zero.ensures ∙ ap (λ (k : ℕ). zeros k b) c.requires ∙ sym (link_test b ∙ slot_unused link_width _ b (omega arith) c.if-b-ne1.true)

pub returns-then-b : goal.returns-then-b
unfolding link_ok link_of time_ok ◌and◌
returns-then-b c = rw (link_test _, slot_used link_width _ _ c.if-b-ne1.false, two_ports) (grind (arith, common_steps, tests))

pub returns-else-b : goal.returns-else-b
unfolding link_ok link_of time_ok ◌and◌
returns-else-b c = rw (link_test _, slot_used link_width _ _ c.if-b-ne1.false, two_ports) (grind (arith, common_steps, tests))
