use Prim.Native.Nat.{ℕ}
use mathlib.Core.Path.{ap}
use mathlib.Core.List.{List}
use Rattle.tables.specs.Records.{return_of}
use Rattle.lookup.proofs.returns.return_arrival.Goals as goal

pub returns : goal.returns
unfolding return_of
returns c = ap (λ (b : List ℕ). (return_of b).arrival) c.record_at.ensures.0
