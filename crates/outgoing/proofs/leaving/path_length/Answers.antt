use Prim.Native.Nat.{ℕ, ◌+◌}
use mathlib.Core.List.{List}
use mathlib.Core.Path.{sym, ap, ◌∙◌}
use lib.ListN.{length}
use borrow.Author.Tests.{eq-eqb, ne_eqb}
use Rattle.octets.proofs.Choice.{then_true, then_false}
use Rattle.outgoing.specs.Leaving.{path_length}
use Rattle.packet.specs.Places.{type_one_start}
use Rattle.outgoing.proofs.leaving.path_length.Goals as goal

pub returns-then-stored_hops-eq0 : goal.returns-then-stored_hops-eq0
unfolding path_length
returns-then-stored_hops-eq0 c = ap (λ (b : List ℕ). type_one_start + length b) c.payload.ensures ∙ sym (then_true _ _ (eq-eqb _ 0 c.if-stored_hops-eq0.true))

pub returns : goal.returns
unfolding path_length
returns c = sym (then_false _ _ (ne_eqb _ 0 c.if-stored_hops-eq0.false))
