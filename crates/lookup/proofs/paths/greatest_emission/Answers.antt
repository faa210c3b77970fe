use Prim.Native.Nat.{ℕ, ◌≤◌}
use mathlib.Core.Path.{sym, ap, subst, ◌∙◌}
use mathlib.Core.List.{List}
use Rattle.numbers.specs.Numbers.{blob_limit}
use Rattle.tables.specs.Records.{blobs_of, path_of}
use Rattle.rules.specs.Blobs.{held, greatest_emission}
use borrow.Author.Rules.{rules}
use Rattle.lookup.proofs.paths.greatest_emission.Goals as goal

pub greatest_of-requires : goal.greatest_of-requires
unfolding path_of blobs_of
greatest_of-requires c = (search rules, subst (λ (b : List ℕ). (blobs_of b).count ≤ blob_limit) (sym c.path_at.ensures.0) c.requires.2)

pub returns : goal.returns
unfolding path_of blobs_of
returns c = c.greatest_of.ensures ∙ ap (λ (b : List ℕ). greatest_emission (held (blobs_of b))) c.path_at.ensures.0
