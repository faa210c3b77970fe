use Prim.Native.Nat.{ℕ}
use mathlib.Core.Path.{ap}
use mathlib.Core.List.{List}
use Rattle.tables.specs.Records.{path_of}
use Rattle.lookup.proofs.paths.path_hops.Goals as goal

pub returns : goal.returns
unfolding path_of
returns c = ap (λ (b : List ℕ). (path_of b).hops) c.path_at.ensures.0
