use Prim.Native.Nat.{ℕ, ◌≤◌}
use mathlib.Core.Path.{sym, ap, subst, ◌∙◌}
use mathlib.Core.List.{List}
use Rattle.numbers.specs.Numbers.{blob_limit}
use Rattle.tables.specs.Records.{blobs_of, path_of}
use Rattle.rules.specs.Blobs.{held, is_among}
use borrow.Author.Rules.{rules}
use Rattle.lookup.proofs.paths.holds_blob.Goals as goal

pub has_blob-requires : goal.has_blob-requires
unfolding path_of blobs_of
has_blob-requires c =
    (search rules, search rules, subst (λ (b : List ℕ). (blobs_of b).count ≤ blob_limit) (sym c.path_at.ensures.0) c.requires.2)

pub returns : goal.returns
unfolding path_of blobs_of
returns c = c.has_blob.ensures ∙ ap (λ (b : List ℕ). is_among c.args.blob (held (blobs_of b))) c.path_at.ensures.0
