-- One more packet in the walks for a path, a link and a return record: what the code makes of the record is what is known after it.
use Rattle.std.proofs.Common.{ℕ, Option, Some, List, ◌≡◌, sym, ap, ◌∙◌}
use Rattle.octets.proofs.Choice.{then_true, eq_same}
use Rattle.numbers.specs.Numbers.{live}
use Rattle.rules.specs.Relay.{Slot, used, Path}
use Rattle.rules.specs.Arrival.{Arrival, destination}
use Rattle.rules.specs.Writes.{announced_path}
use Rattle.rules.specs.declared.RateSettings.{RateSettings}
use Rattle.judging.specs.declared.SeenPath.{SeenPath}
use Rattle.judging.specs.Seen.{path_record, path_of}
use Rattle.judging.specs.Steps.{settings_view}
use Rattle.judging.proofs.Narrow.{announced_by_lem}
use Rattle.history.specs.Known.{Known, only_if, seen_at}
use Rattle.history.specs.After.{came, after}
use Rattle.opinion_log.specs.declared.outcomes.Effect.TheVariants.{AnnouncesPath}
use Rattle.opinion_log.specs.Steps.{effect_of}
use Rattle.opinion_log.proofs.Changes.{path_announced}

module _ (a : Arrival) (k : Known) where
  pub announce_step : effect_of (came a) k ≡ AnnouncesPath → (d : List ℕ) → destination a ≡ d → (known : Option SeenPath)
      → path_of d known ≡ only_if (λ p. live a.clock p.expiry) (k.path d) → (settings : RateSettings) (mode : ℕ) → settings ≡ k.rate
      → mode ≡ (k.port a.port).mode → (r : SeenPath)
      → path_record (destination a) r ≡ announced_path (settings_view settings mode) a (path_of (destination a) known)
      → path_of d (Some r) ≡ (after (came a) k).path d
  unfolding seen_at
  announce_step h d ours known seen settings mode rated moded r made =
      ap (λ (x : List ℕ). path_of x (Some r)) (sym ours)
      ∙ ap used made
      ∙ (λ i. used (announced_path (settings_view (rated i) (moded i)) a (path_of (destination a) known)))
      ∙ ap used (announced_by_lem (seen_at a.clock k) a (path_of (destination a) known))
      ∙ ap (λ (s : Slot Path). used (announced_path (seen_at a.clock k) a s))
      (ap (λ (x : List ℕ). path_of x known) ours ∙ seen ∙ ap (λ (x : List ℕ). only_if (λ p. live a.clock p.expiry) (k.path x)) (sym ours))
      ∙ sym (path_announced a k h d ∙ then_true _ _ (eq_same _ _ ours))
