use Rattle.std.proofs.Common.{rules}
use borrow.Author.Tests.{tests}
use Rattle.std.proofs.Common.{◌∙◌, ap, sym, ℕ, Option}
use Rattle.std.specs.Option.{unwrap_or}
use Rattle.std.proofs.lemmas.Iterator.Adapters.{option_map_id}
use Rattle.std.proofs.lemmas.Iterator.{YieldsList-from_slice, YieldsList-from_map}
use Rattle.std.proofs.lemmas.Iterator.Consumers.{max_from_yields_List}
use Rattle.packet.specs.Announce.{emission_of}
use Rattle.rules.specs.Blobs.{greatest_emission}
use Rattle.judging.proofs.HeldBlobs.{greatest_of}
use Rattle.judging.proofs.Stored.greatest_emission.Goals as goal

pub returns : goal.returns
returns c =
    let held_now = c.held.result.now in
    c.unwrap_or.ensures
    ∙ ap (λ (m : Option ℕ). unwrap_or m 0)
    (sym (option_map_id c.max.result) ∙ max_from_yields_List c.map.result c.max.result c.max.ensures.ran
    (YieldsList-from_map _ emission_of (YieldsList-from_slice held_now (cc)) c.map.ensures.closure (λ x r q k. search (rules, tests))))
    ∙ greatest_of held_now ∙ ap greatest_emission c.held.ensures
