use Prim.Native.Nat.{ℕ}
use mathlib.Core.Path.{ap, ◌∙◌}
use mathlib.Core.List.{List}
use Rattle.tables.specs.Records.{path_of}
use Rattle.lookup.proofs.paths.path_next_hop.Goals as goal

pub returns : goal.returns
unfolding path_of
returns c = c.address_at.ensures ∙ ap (λ (b : List ℕ). (path_of b).next_hop) c.path_at.ensures.0
