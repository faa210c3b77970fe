use Prim.Native.Nat.{ℕ, max}
use mathlib.Core.Path.{ap, ◌∙◌}
use Rattle.std.proofs.Common.{rules, lit<}
use Rattle.std.specs.List.{fold}
use Rattle.std.proofs.lemmas.Iterator.Consumers.{fold_from_yields_List}
use Rattle.packet.specs.Announce.{emission_of}
use Rattle.rules.specs.Blobs.{held}
use Rattle.tables.specs.Places.{blob_width}
use Rattle.tables.specs.Records.{blobs_of}
use Rattle.tables.proofs.Chunks.{chunks_yield}
use Rattle.lookup.proofs.HeldBlobs.{greatest_folded}
use Rattle.lookup.proofs.blobs.greatest_of.Goals as goal

pub returns : goal.returns
returns c =
    let n : ℕ = (blobs_of c.args.b.now).count in
    fold_from_yields_List _ (λ m y. max (emission_of y) m) 0 _ c.fold.ensures.ran
    (chunks_yield blob_width n c.held_in.result.now (lit< tt) c.chunks_exact.ensures.size c.chunks_exact.ensures.rest c.held_in.ensures.long)
    (λ m x b q k. search rules)
    ∙ ap (fold (λ m y. max (emission_of y) m) 0) c.held_in.ensures.blobs ∙ greatest_folded (held (blobs_of c.args.b.now))
