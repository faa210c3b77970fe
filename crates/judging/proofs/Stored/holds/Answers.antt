use Rattle.std.proofs.Common.{rules}
use borrow.Author.Tests.{tests}
use Rattle.std.proofs.Common.{◌∙◌, ap, eqb}
use Rattle.std.proofs.lemmas.Iterator.{YieldsList-from_slice}
use Rattle.std.proofs.lemmas.Iterator.Search.{any_from_yields_List}
use lib.Pointwise.{pointwise}
use Rattle.rules.specs.Blobs.{is_among}
use Rattle.judging.proofs.HeldBlobs.{any_among}
use Rattle.judging.proofs.Stored.holds.Goals as goal

pub returns : goal.returns
returns c =
    let held_now = c.held.result.now in
    any_from_yields_List (λ y. pointwise eqb y c.args.blob) _ _ _ c.any.ensures.ran (YieldsList-from_slice held_now (cc)) (λ x b q k. search (rules, tests))
    ∙ any_among c.args.blob held_now ∙ ap (is_among c.args.blob) c.held.ensures
