use Prim.Native.Nat.{ℕ}
use mathlib.Core.Bool.{Bool, true, false}
use mathlib.Core.List.{List}
use mathlib.Core.Path.{◌≡◌, sym, ap, ◌∙◌}
use Rattle.octets.specs.Choice.{◌then◌otherwise◌}
use Rattle.octets.proofs.Choice.{then_true, then_false}
use Rattle.numbers.specs.Numbers.{blob_limit}
use Rattle.rules.specs.Relay.{Blobs}
use Rattle.rules.specs.Blobs.{held, is_among, one_blob, add_blob, store_blob}
use Rattle.rules.proofs.Ranges.{path_counted}
use Rattle.tables.specs.Places.{paths_at, path_width}
use Rattle.tables.specs.Records.{path_of, blobs_of}
use Rattle.tables.specs.Layout.{record_at}
use Rattle.update.specs.declared.Announced.{Announced}
use Rattle.update.specs.Written.{announced, path_written}
use Rattle.plan.specs.Decided.{path_at}
use Rattle.act.specs.Stored.{blobs_stored, path_put}
use Rattle.act.proofs.announces.put_path.Goals as goal

-- a known path, by whether it holds the blob
module _ (t : List ℕ) (place : ℕ) (known : Bool) (path : Announced) (blob : List ℕ) (is : known ≡ true) where
  abbrev blobs : Blobs
  blobs = blobs_of (record_at paths_at path_width t place)

  kept : is_among blob (held (path_at t place).blobs) ≡ true → path_written t place (announced path blobs) ≡ path_put t place known path blob
  unfolding path_put blobs_stored store_blob path_of blobs_of
  kept q =
      ap (λ (y : Blobs). path_written t place (announced path y))
      (sym (then_true (store_blob blob_limit blob blobs) (one_blob blob_limit blob) is ∙ then_true blobs (add_blob blob_limit blob blobs) q))

  stored : is_among blob (held (path_at t place).blobs) ≡ false
      → path_written t place (announced path (add_blob blob_limit blob blobs)) ≡ path_put t place known path blob
  unfolding path_put blobs_stored store_blob path_of blobs_of
  stored q =
      ap (λ (y : Blobs). path_written t place (announced path y))
      (sym (then_true (store_blob blob_limit blob blobs) (one_blob blob_limit blob) is ∙ then_false blobs (add_blob blob_limit blob blobs) q))

pub returns-then-not-known : goal.returns-then-not-known
unfolding path_put blobs_stored ◌then◌otherwise◌
returns-then-not-known c = c.put_new_path.ensures ∙ rw c.if-not-known.true

pub holds_blob-requires : goal.holds_blob-requires
holds_blob-requires c = (c.requires.0, c.requires.1, (path_counted _ (c.requires.2 c.if-not-known.false).fine).most)

pub returns-then-holds_blob : goal.returns-then-holds_blob
returns-then-holds_blob c =
    c.put_kept_path.ensures
    ∙ kept _ _ _ _ _ c.if-not-known.false (sym c.holds_blob.ensures ∙ c.if-holds_blob.true)

pub returns-else-holds_blob : goal.returns-else-holds_blob
returns-else-holds_blob c =
    c.put_known_path.ensures
    ∙ stored _ _ _ _ _ c.if-not-known.false (sym c.holds_blob.ensures ∙ c.if-holds_blob.false)
