use Rattle.std.proofs.Common.{ℕ, ◌+◌, List, Option, Some, None, ◌≡◌, refl, ap, ◌∙◌}
use Rattle.octets.specs.Choice.{◌then◌otherwise◌}
use Rattle.packet.specs.Announce.{blob_of}
use Rattle.packet.specs.declared.Parts.{Parts}
use Rattle.rules.specs.Relay.{make_path}
use Rattle.rules.specs.Arrival.{Arrival, destination, blob}
use Rattle.rules.specs.Tests.{revives}
use Rattle.rules.specs.Writes.{announced_path, announced_rate, announced_blobs}
use Rattle.rules.specs.declared.RateSettings.{RateSettings}
use Rattle.judging.specs.declared.SeenPath.{SeenPath}
use Rattle.judging.specs.Seen.{arrival_of, path_of}
use Rattle.judging.specs.Steps.{settings_view, rate_announced, blobs_announced}
use Rattle.judging.proofs.records.announced_path.Goals as goal

module _ (a : Arrival) where
  rate_lem : (settings : RateSettings) (mode : ℕ) (s : Option SeenPath)
      → rate_announced settings s (blob a) a.clock ≡ announced_rate (settings_view settings mode) a (path_of (destination a) s)
  unfolding announced_rate revives
  rate_lem settings mode None = refl
  rate_lem settings mode (Some s) = refl

  blobs_lem : (s : Option SeenPath) → blobs_announced s (blob a) ≡ announced_blobs a (path_of (destination a) s)
  unfolding announced_blobs
  blobs_lem None = refl
  blobs_lem (Some s) = refl

pub returns : goal.returns
unfolding announced_path ◌then◌otherwise◌
returns c =
    let a = arrival_of c.args.packet.now c.args.arrived in
    let s = c.args in
    let own : c.blob-blob.result ≡ blob a = c.blob-blob.ensures ∙ ap blob_of c.payload.ensures in
    let hop = ap (λ (q : Parts). q.hops) c.parts_of.ensures in
    let next = c.next_hop_of.ensures in
    let lifetime = c.path_lifetime.ensures.0 in
    let rate = c.announced_rate.ensures.0
    ∙ ap (λ (x : List ℕ). rate_announced s.settings s.known x s.arrived.clock) own ∙ rate_lem a s.settings s.mode s.known in
    let blobs = c.announced_blobs.ensures.0 ∙ ap (blobs_announced s.known) own ∙ blobs_lem a s.known in (
      (λ i. make_path (destination a) a.port (hop i) (next i) (a.clock + lifetime i) (rate i) (c.none.ensures i) (blobs i)),
      record { entry = c.announced_rate.ensures.1; blobs = c.announced_blobs.ensures.1 },
    )
