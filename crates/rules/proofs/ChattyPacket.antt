-- Wish 5, of one announce for a live path: while it is blocked no record of a path changes, and one that comes on time is let by.
use Prim.Native.Nat.{ℕ, ◌-◌}
use mathlib.Core.Bool.{true, false, not, false≢true}
use mathlib.Core.List.{List}
use mathlib.Core.Path.{◌≡◌, refl, sym, ap, ◌∙◌}
use lib.ListN.{length, set}
use lib.Seq.{set-get_or}
use borrow.Author.Tests.{not-true}
use Rattle.octets.specs.Index.{◌and◌}
use Rattle.octets.specs.Choice.{◌then◌otherwise◌}
use Rattle.octets.proofs.Index.{and_left, and_right, and_both, and_no, and_false}
use Rattle.octets.proofs.Choice.{then_false}
use Rattle.packet.specs.Header.{is_announce}
use Rattle.rules.specs.Relay.{Slot, empty, used, Path, with_path_rate, Relay, with_paths}
use Rattle.rules.specs.View.{View, view_at, path_place}
use Rattle.rules.specs.Arrival.{Arrival, header, destination}
use Rattle.rules.specs.Rate.{rated, entry_accepted}
use Rattle.rules.specs.Ways.{everywhere, way_on}
use Rattle.rules.specs.Tests.{revives, of_known, known_tests}
use Rattle.rules.specs.Judging.{Plan, dropped, delivered, follows, plan}
use Rattle.rules.specs.Writes.{announced_rate, announced_path, limit_path, is_rate_drop, write_drop, write_plan}
use Rattle.rules.specs.Run.{packet, perform}
use Rattle.rules.specs.Chatty.{NoRateDrop, WhileBlocked, PathsStay, BlockedStays, OnTime, Forgiven, rate_is_made, reaches_rate, OnTimeLetBy}
use Rattle.rules.specs.declared.RateEntry.{RateEntry}
use Rattle.rules.specs.declared.Rated.{Rated}
use Rattle.rules.specs.declared.Tally.{Tally}
use Rattle.rules.proofs.Choices.{either}
use Rattle.rules.proofs.Passed.{passed}
use Rattle.rules.proofs.Stamped.{enact_paths}
use Rattle.rules.proofs.Held.{packet_kept}
use Rattle.rules.proofs.Announced.{shown_after}
use Rattle.rules.proofs.RateLaws.{rated_blocked, blocked_stays, rated_on_time}
use Rattle.octets.proofs.JoinedTests.{holds_for, none_for}
use Rattle.rules.proofs.ChattyPlan.{rate_limited, announce_way, dropped_reached, reaches, past_rate, rate_dropped}

-- what test 15 says of an announce of a known path
pub known_limited : (v : View) (a : Arrival) (p : Path) → is_announce (header a) ≡ true → v.path (destination a) ≡ used p
    → rate_limited v a (way_on v a) ≡ (not (revives a p) and (rated v.rate a.clock p.rate).dropped)
unfolding of_known
known_limited v a p announce known = ap (rate_limited v a) (announce_way v a announce ∙ ap everywhere known)

-- it is made, unless the announce revives a marked one
pub known_made : (v : View) (a : Arrival) (p : Path) → is_announce (header a) ≡ true → v.path (destination a) ≡ used p
    → rate_is_made v a ≡ (not (revives a p) and true)
unfolding rate_is_made of_known
known_made v a p announce known = ap (of_known a (λ p. true)) (announce_way v a announce ∙ ap everywhere known)

-- ---- (b)
module _ (p : Path) (a : Arrival) (r : Relay) (h : WhileBlocked p a r) where
  abbrev seen : View
  seen = view_at a.clock r

  holds_then : rate_limited seen a (way_on seen a) ≡ true
  unfolding revives
  holds_then =
      known_limited seen a p h.announce h.live
      ∙ and_both (ap not (and_no _ h.unmarked)) (ap (λ (x : Rated). x.dropped) (rated_blocked seen.rate a.clock p.rate h.blocked))

  -- test 15 writes what stood there
  limit_stays : (limit_path seen a (seen.path (destination a)) r).paths ≡ r.paths
  unfolding limit_path with_paths view_at
  limit_stays =
      let place : ℕ = path_place a.clock r (destination a) in
      ap (λ (s : Slot Path). (limit_path seen a s r).paths) h.live
      ∙ ap (λ (e : RateEntry). set r.paths place (used (with_path_rate e p))) (blocked_stays r.rate a.clock p.rate h.blocked)
      ∙ ap (set r.paths place) (sym h.live)
      ∙ set-get_or r.paths place empty

  plan_stays : (todo : Plan) → plan seen a ≡ todo → (write_plan seen a todo r).paths ≡ r.paths
  unfolding write_plan write_drop known_tests holds_for ◌then◌otherwise◌
  plan_stays (dropped reason) e = either (λ (s : Relay). s.paths ≡ r.paths) (is_rate_drop reason) (λ _. limit_stays) (λ _. refl)
  plan_stays delivered e = refl
  plan_stays (follows w) e =
      let (way, p) = passed seen a w e in
      let past : rate_limited seen a w ≡ false = none_for is_rate_drop (known_tests seen a w) p.known in
      absurd (false≢true (sym past ∙ sym (ap (rate_limited seen a) way) ∙ holds_then))

pub blocked_announce_stays : BlockedStays
blocked_announce_stays p a output r t h =
    packet_kept (PathsStay r) refl a t output
    (λ _. enact_paths (view_at a.clock r) a (plan (view_at a.clock r) a) r ∙ plan_stays p a r h _ refl)

-- ---- (c)
module _ (p : Path) (a : Arrival) (output : List ℕ) (r : Relay) (t : Tally) (h : OnTime p a r) where
  abbrev view : View
  view = view_at a.clock r

  abbrev R : Relay
  R = (perform (packet a output) r t).relay

  says : rated view.rate a.clock p.rate ≡ record { dropped = false; violations = p.rate.violations - 1; blocked_until = p.rate.blocked_until }
  unfolding view_at
  says = rated_on_time r.rate a.clock p.rate h.free h.spaced

  off : rate_limited view a (way_on view a) ≡ false
  off = known_limited view a p h.announce h.live ∙ ap (λ (x : Rated). not (revives a p) and x.dropped) says ∙ and_false _

  not_dropped_then : NoRateDrop (perform (packet a output) r t).reply
  not_dropped_then room reply = false≢true (sym off ∙ (dropped_reached view a (rate_dropped a output r t room reply).1).0)

  -- where test 15 is made
  forgiven_after : revives a p ≡ false → Forgiven p (announced_path view a (used p)) a
  unfolding announced_path announced_rate entry_accepted
  forgiven_after made =
      let by-rule : announced_rate view a (used p) ≡ entry_accepted view.rate a.clock p.rate = then_false _ _ made in
      record {
        last = ap (λ (e : RateEntry). e.last) by-rule;
        violations = ap (λ (e : RateEntry). e.violations) by-rule ∙ ap (λ (x : Rated). x.violations) says;
        stays = ap (λ (e : RateEntry). e.blocked_until) by-rule ∙ ap (λ (x : Rated). x.blocked_until) says;
      }

  forgiven_then : reaches_rate a (length output) r ≡ true → (p' : Path) × ((view_at a.clock R).path (destination a) ≡ used p') × Forgiven p p' a
  unfolding reaches_rate
  forgiven_then e =
      let taken = and_left _ _ e in
      let rest = and_right _ _ e in
      let made = not-true _ (and_left _ _ (sym (known_made view a p h.announce h.live) ∙ and_left _ _ rest)) in
      let todo = past_rate view a p h.announce h.live off (reaches view a (and_right _ _ rest)) in
      (announced_path view a (used p), shown_after a output r t taken p h.live todo, forgiven_after made)

pub on_time_let_by : OnTimeLetBy
on_time_let_by p a output r t h = record { not_dropped = not_dropped_then p a output r t h; forgiven = forgiven_then p a output r t h }
