use Prim.Native.Nat.{ℕ}
use mathlib.Core.Path.{sym, ap, ◌∙◌}
use mathlib.Core.List.{List}
use lib.ListN.{get_or}
use Rattle.lookup.proofs.Tables.{mode_seen}
use Rattle.lookup.proofs.ports.port_mode.Goals as goal

pub returns : goal.returns
returns c =
    ap (λ (b : List ℕ). get_or b 1 0) c.record_at.ensures.0 ∙ sym (mode_seen c.args.tables.now c.args.port c.requires.1)
