use Rattle.std.proofs.lemmas.Grind.{common_steps}
use native.Mathlib.Omega.{arith}
use borrow.Author.Tests.{tests}
use Prim.Native.Nat.{ℕ}
use mathlib.Core.Path.{sym, ap, ◌∙◌}
use Rattle.octets.specs.Index.{zeros, ◌and◌}
use Rattle.rules.specs.Refusals.{time_ok, hash_ok}
use Rattle.tables.specs.Places.{hash_width}
use Rattle.tables.specs.Records.{hash_of}
use Rattle.tables.proofs.Tests.{slot_unused, slot_used, hash_test}
use Rattle.tables.proofs.record_check.hash_ok.Goals as goal

pub returns-then-b-ne1 : goal.returns-then-b-ne1
returns-then-b-ne1 c =
    let b = c.args.b.now in
    c.is_zero.ensures ∙ ap (λ (k : ℕ). zeros k b) c.requires ∙ sym (hash_test b ∙ slot_unused hash_width _ b (omega arith) c.if-b-ne1.true)

pub returns : goal.returns
unfolding hash_ok hash_of time_ok ◌and◌
returns c = rw (hash_test _, slot_used hash_width _ _ c.if-b-ne1.false) (grind (arith, common_steps, tests))
