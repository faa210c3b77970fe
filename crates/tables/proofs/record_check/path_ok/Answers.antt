use Rattle.std.proofs.lemmas.Grind.{common_steps}
use native.Mathlib.Omega.{arith}
use borrow.Author.Tests.{tests}
use Prim.Native.Nat.{ℕ}
use mathlib.Core.Path.{sym, ap, ◌∙◌}
use Rattle.octets.specs.Index.{zeros, ◌and◌}
use Rattle.rules.specs.Refusals.{time_ok, path_ok}
use Rattle.tables.specs.Places.{path_width}
use Rattle.tables.specs.Records.{blobs_of, path_of}
use Rattle.tables.specs.Fields.{path_hops_at}
use Rattle.tables.proofs.Tests.{slot_unused, slot_used, path_test}
use Rattle.tables.proofs.record_check.path_ok.Goals as goal

pub returns-then-b-ne1 : goal.returns-then-b-ne1
returns-then-b-ne1 c =
    let b = c.args.b.now in
    c.is_zero.ensures ∙ ap (λ (k : ℕ). zeros k b) c.requires ∙ sym (path_test b ∙ slot_unused path_width _ b (omega arith) c.if-b-ne1.true)

pub returns-then-number_of_8_at-le-TIME_LIMIT : goal.returns-then-number_of_8_at-le-TIME_LIMIT
unfolding path_ok path_of blobs_of time_ok ◌and◌
returns-then-number_of_8_at-le-TIME_LIMIT c =
    let hops = (c.type_inv.b path_hops_at).fits in
    rw (path_test _, slot_used path_width _ _ c.if-b-ne1.false) (grind (arith, common_steps, tests))

pub returns-else-number_of_8_at-le-TIME_LIMIT : goal.returns-else-number_of_8_at-le-TIME_LIMIT
unfolding path_ok path_of blobs_of time_ok ◌and◌
returns-else-number_of_8_at-le-TIME_LIMIT c =
    let hops = (c.type_inv.b path_hops_at).fits in
    rw (path_test _, slot_used path_width _ _ c.if-b-ne1.false) (grind (arith, common_steps, tests))
