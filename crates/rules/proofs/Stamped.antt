-- The records that a packet writes leave the remembered hashes; a drop writes paths alone; and the stamp leaves all but the clock and the hashes.
use mathlib.Core.List.{List}
use mathlib.Core.Path.{◌≡◌, refl}
use Rattle.packet.specs.Header.{is_data}
use Rattle.rules.specs.Relay.{Slot, empty, used, Path, Relay, with_clock, with_paths, with_links, with_returns, with_hashes}
use Rattle.rules.specs.View.{View}
use Rattle.rules.specs.Arrival.{Arrival, header, destination}
use Rattle.rules.specs.Ways.{Way, everywhere, by_path, along_link, by_return, blocked}
use Rattle.rules.specs.Judging.{Plan, dropped, delivered, follows}
use Rattle.rules.specs.Writes.{remembers, remember, put_path, limit_path, put_return, empty_return, put_link, renew_link, write_way, is_rate_drop, write_drop, write_plan, stamp, enact}
use Rattle.rules.proofs.Choices.{either}
use Rattle.rules.specs.declared.Reason.{Reason}

module _ (v : View) (a : Arrival) where
  -- what holds of a relay, whatever its paths, holds after a drop
  pub drop_kept : (P : Relay → Type 0) (reason : Reason) (r : Relay) → P r → ((paths : List (Slot Path)) → P (with_paths paths r)) → P (write_drop v a reason r)
  unfolding write_drop limit_path
  drop_kept P reason r here there = either P (is_rate_drop reason) (λ _. go (v.path (destination a))) (λ _. here)
    where
      go : (s : Slot Path) → P (limit_path v a s r)
      go empty = here
      go (used p) = there _

  way_hashes : (w : Way) (r : Relay) → (write_way v a w r).hashes ≡ r.hashes
  unfolding write_way put_path put_return put_link renew_link empty_return with_paths with_links with_returns
  way_hashes (everywhere known) r = refl
  way_hashes (by_path p) r = either (λ (s : Relay). s.hashes ≡ r.hashes) (is_data (header a)) (λ _. refl) (λ _. refl)
  way_hashes (along_link l) r = refl
  way_hashes (by_return t) r = refl
  way_hashes (blocked why) r = refl

  pub plan_hashes : (todo : Plan) (r : Relay) → (write_plan v a todo r).hashes ≡ r.hashes
  unfolding write_plan with_paths
  plan_hashes (dropped reason) r = drop_kept (λ s. s.hashes ≡ r.hashes) reason r refl (λ paths. refl)
  plan_hashes delivered r = refl
  plan_hashes (follows w) r = way_hashes w r

  -- every accepted packet sets the clock, and its other records are as they were written
  pub enact_clock : (todo : Plan) (r : Relay) → (enact v a todo r).clock ≡ a.clock
  unfolding enact stamp with_clock remember with_hashes
  enact_clock todo r = either (λ (s : Relay). s.clock ≡ a.clock) (remembers v a todo) (λ _. refl) (λ _. refl)

  pub enact_paths : (todo : Plan) (r : Relay) → (enact v a todo r).paths ≡ (write_plan v a todo r).paths
  unfolding enact stamp with_clock remember with_hashes
  enact_paths todo r = either (λ (s : Relay). s.paths ≡ (write_plan v a todo r).paths) (remembers v a todo) (λ _. refl) (λ _. refl)

  pub enact_links : (todo : Plan) (r : Relay) → (enact v a todo r).links ≡ (write_plan v a todo r).links
  unfolding enact stamp with_clock remember with_hashes
  enact_links todo r = either (λ (s : Relay). s.links ≡ (write_plan v a todo r).links) (remembers v a todo) (λ _. refl) (λ _. refl)
