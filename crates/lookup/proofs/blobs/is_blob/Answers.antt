use borrow.Author.Tests.{ne_eqb}
use mathlib.Core.Path.{sym, ◌∙◌}
use Rattle.octets.proofs.Chains.{equal_is_same}
use Rattle.lookup.proofs.HeldBlobs.{other_blob}
use Rattle.lookup.proofs.blobs.is_blob.Goals as goal

pub returns-then-word_at-last : goal.returns-then-word_at-last
returns-then-word_at-last c = c.eq.ensures ∙ equal_is_same c.args.one.now c.args.blob.now

pub returns-else-word_at-last : goal.returns-else-word_at-last
returns-else-word_at-last c =
    ne_eqb _ _ c.if-word_at-last.false
    ∙ other_blob c.args.one.now c.args.blob.now c.requires.0 c.requires.1 (λ q. c.if-word_at-last.false (c.word_at.ensures ∙ q ∙ sym c.requires.2))
