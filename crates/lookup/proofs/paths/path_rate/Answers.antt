use Prim.Native.Nat.{ℕ}
use mathlib.Core.Path.{ap, ◌∙◌}
use mathlib.Core.List.{List}
use Rattle.tables.specs.Records.{path_of}
use Rattle.lookup.proofs.paths.path_rate.Goals as goal

pub returns : goal.returns
returns c = c.rate_of.ensures ∙ ap (λ (b : List ℕ). (path_of b).rate) c.path_at.ensures.0
