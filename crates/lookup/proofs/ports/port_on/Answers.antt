use Prim.Native.Nat.{ℕ}
use mathlib.Core.Path.{sym, ap, ◌∙◌}
use mathlib.Core.List.{List}
use lib.Dec.{eqb}
use lib.ListN.{get_or}
use borrow.Author.Tests.{le-ltb}
use Rattle.octets.proofs.Index.{and_no}
use Rattle.rules.specs.View.{port_on}
use Rattle.lookup.proofs.Tables.{on_seen}
use Rattle.lookup.proofs.ports.port_on.Goals as goal

pub returns-then-port : goal.returns-then-port
returns-then-port c =
    ap (λ (b : List ℕ). eqb (get_or b 0 0) 1) c.record_at.ensures.0 ∙ sym
    (on_seen c.args.tables.now c.args.port c.if-port.true)

pub returns-else-port : goal.returns-else-port
unfolding port_on
returns-else-port c = le-ltb _ _ c.if-port.false ∙ sym (and_no _ (le-ltb _ _ c.if-port.false))
