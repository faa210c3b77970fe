use Rattle.std.proofs.iter.Serving.{serving}
use Prim.Native.Nat.{ℕ}
use mathlib.Core.Path.{ap, ◌∙◌}
use Rattle.std.proofs.Common.{rules, lit<}
use Rattle.octets.specs.Choice.{same}
use Rattle.lookup.proofs.HeldBlobs.{last_of, any_among}
use Rattle.std.specs.List.{list_any}
use Rattle.std.proofs.lemmas.Iterator.Search.{any_from_yields_List}
use Rattle.rules.specs.Blobs.{held}
use Rattle.tables.specs.Places.{blob_width}
use Rattle.tables.specs.Records.{blobs_of}
use Rattle.tables.proofs.Chunks.{chunks_yield}
use Rattle.lookup.proofs.blobs.has_blob.Goals as goal

pub any-requires-clause-callable : goal.any-requires-clause-callable
any-requires-clause-callable c = let last = last_of c.args.blob.now c.requires.1 in grind serving

pub returns : goal.returns
returns c =
    let x = c.args.blob.now in
    let n : ℕ = (blobs_of c.args.b.now).count in
    any_from_yields_List (λ y. same y x) _ _ _ c.any.ensures.ran
    (chunks_yield blob_width n c.held_in.result.now (lit< tt) c.chunks_exact.ensures.size c.chunks_exact.ensures.rest c.held_in.ensures.long)
    (λ y b q k. search rules)
    ∙ ap (list_any (λ y. same y x)) c.held_in.ensures.blobs ∙ any_among x (held (blobs_of c.args.b.now))
