-- An announce: tests 9, 10, 11, 15 and 13 are all that can hold of it.
use Prim.Native.Nat.{ℕ, ◌≤◌, ◌<◌}
use mathlib.Core.Bool.{Bool, true, false, not}
use Rattle.std.specs.Prelude.{Some, None}
use mathlib.Core.Path.{◌≡◌, refl, sym, ap, ◌∙◌}
use mathlib.Core.List.{List}
use Rattle.octets.specs.Index.{◌and◌}
use Rattle.octets.specs.Choice.{◌or◌, ◌then◌otherwise◌}
use Rattle.octets.proofs.Choice.{then_true}
use Rattle.packet.specs.Header.{packet_kind, is_announce, is_link_request}
use Rattle.packet.specs.Announce.{emission_of}
use Rattle.octets.specs.Listed.{first_of, valued}
use Rattle.rules.specs.Relay.{Slot, empty, used, Path, Relay}
use Rattle.rules.specs.View.{View, path_place, view_at}
use Rattle.rules.specs.Arrival.{Arrival, header, hops, destination, blob, is_link_proof}
use Rattle.rules.specs.Ways.{Way, everywhere, way_on}
use Rattle.rules.specs.Tests.{is_there, no_way_on, already_known, wrong_side, not_signed, revives, of_known, known_tests, port_off, too_long_for_port, no_room}
use Rattle.rules.specs.Judging.{Plan, dropped, follows, onward_plan, onward_tests}
use Rattle.rules.specs.Writes.{announced_place}
use Rattle.rules.specs.Blobs.{held, is_among}
use Rattle.rules.specs.Rate.{rated}
use Rattle.rules.specs.declared.Reason.TheVariants.{NotSigned, Replay, NotBetter, RateLimited, NoRoom}
use Rattle.numbers.specs.Numbers.{path_count, blob_limit}
use Rattle.octets.proofs.JoinedTests.{joined_first}
use Rattle.rules.specs.Refusals.{rate_entry_ok}
use Rattle.rules.proofs.Ranges.{path_counted, path_rate}
use Rattle.outgoing.proofs.Steps.{reading}
use Rattle.tables.specs.Layout.{rate_settings_in, relay_of, well_formed}
use Rattle.tables.proofs.Whole.{formed}
use Rattle.lookup.specs.Search.{found}
use Rattle.lookup.proofs.Found.{found_some, found_none, path_found, path_missing, path_ok_lem}
use Rattle.plan.proofs.Judged.{judging}
use Rattle.forms.proofs.KindLaws.{announce_long}
use Rattle.plan.specs.Decided.{CanKnow, path_at, decided_way, decided, onward}
use Rattle.plan.specs.Kinds.{new_path, revived_by, worse_than, known_path}
use Rattle.plan.specs.declared.Decision.TheVariants.{Drop, Announce}
use Rattle.forms.proofs.KindLaws.{other_kind, no_link_proof}
use Rattle.plan.proofs.KindLaws.{decided_test, decided_first}

-- a live path that a search found in well-formed tables
pub can_know : (t : List ℕ) (clock : ℕ) (to : List ℕ) (i : ℕ) → i ≡ path_place clock (relay_of t) to → well_formed t ≡ true → i < path_count → CanKnow t i
unfolding relay_of rate_settings_in
can_know t clock to i e h l = record { within = l; fine = path_ok_lem t clock to i e h l; sound = (formed t h).rate }

pub found_known : (t : List ℕ) (clock : ℕ) (to : List ℕ) {i : ℕ} → Some i ≡ found path_count (path_place clock (relay_of t) to) → well_formed t ≡ true
    → CanKnow t i
found_known t clock to {i} answer h = let (e, l) = found_some answer in can_know t clock to i e h l

-- .. counts its blobs, and keeps the rate rule's bounds
pub few_blobs : (t : List ℕ) (i : ℕ) → CanKnow t i → (path_at t i).blobs.count ≤ blob_limit
few_blobs t i known = (path_counted _ known.fine).most

pub sound_entry : (t : List ℕ) (i : ℕ) → CanKnow t i → rate_entry_ok (path_at t i).rate ≡ true
sound_entry t i known = path_rate _ known.fine

pub ruleset knowing = (reading, few_blobs, sound_entry)

module _ (a : Arrival) (is : is_announce (header a) ≡ true) where
  no_request : is_link_request (header a) ≡ false
  no_request = other_kind (packet_kind (header a)) 1 2 is refl

  no_proof : is_link_proof a.bytes ≡ false
  no_proof = no_link_proof a (other_kind (packet_kind (header a)) 1 3 is refl)

  announce_plan : (v : View) (known : Slot Path) → onward_plan v a (everywhere known)
      ≡ (not a.signed then dropped NotSigned otherwise
      first_of (valued dropped (known_tests v a (everywhere known)))
      (no_room v a (everywhere known) then dropped NoRoom otherwise follows (everywhere known)))
  unfolding onward_plan onward_tests first_of no_way_on already_known wrong_side not_signed port_off too_long_for_port ◌then◌otherwise◌ ◌and◌ ◌or◌
  announce_plan v known =
      rw (no_request, no_proof, is)
      (ap (λ (x : Plan). not a.signed then dropped NotSigned otherwise x)
      (joined_first dropped (known_tests v a (everywhere known)) _ (follows (everywhere known))))

  announce_onward : (r : Relay) (known : Slot Path) → (view_at a.clock r).path (destination a) ≡ known
      → onward r a
      ≡ (not a.signed then Drop NotSigned otherwise
      first_of (valued Drop (known_tests (view_at a.clock r) a (everywhere known)))
      (no_room (view_at a.clock r) a (everywhere known) then Drop NoRoom otherwise Announce (announced_place a known r) (is_there known)))
  unfolding onward way_on decided decided_way
  announce_onward r known e =
      let v : View = view_at a.clock r in
      ap (λ (w : Way). decided r a (onward_plan v a w)) (then_true _ _ is ∙ ap everywhere e)
      ∙ ap (decided r a) (announce_plan v known)
      ∙ simp (decided_test, decided_first)

  module _ (r : Relay) where
    pub announce_unsigned : a.signed ≡ false → Drop NotSigned ≡ onward r a
    unfolding ◌then◌otherwise◌
    announce_unsigned e = sym (announce_onward r _ refl ∙ rw e)

    announce_new : a.signed ≡ true → (view_at a.clock r).path (destination a) ≡ empty → new_path a.clock r ≡ onward r a
    unfolding new_path known_tests of_known no_room view_at is_there announced_place first_of valued ◌then◌otherwise◌
    announce_new e none = sym (announce_onward r empty none ∙ rw e)

    announce_known : a.signed ≡ true → (p : Path) → (view_at a.clock r).path (destination a) ≡ used p
        → known_path r a p (path_place a.clock r (destination a)) ≡ onward r a
    unfolding known_path no_room is_there announced_place ◌then◌otherwise◌
    announce_known e p there = sym (announce_onward r (used p) there ∙ rw e)

-- ---- on tables, by what the search for the path answered
module _ (t : List ℕ) (a : Arrival) (is : is_announce (header a) ≡ true) (signed : a.signed ≡ true) where
  pub announce_at : {i : ℕ} → Some i ≡ found path_count (path_place a.clock (relay_of t) (destination a))
      → known_path (relay_of t) a (path_at t i) i ≡ onward (relay_of t) a
  announce_at {i} found =
      let (e, l) = found_some found in
      ap (known_path (relay_of t) a (path_at t i)) e
      ∙ announce_known a is (relay_of t) signed (path_at t i) (path_found t a.clock (destination a) i e l)

  pub announce_nowhere : None ≡ found path_count (path_place a.clock (relay_of t) (destination a)) → new_path a.clock (relay_of t) ≡ onward (relay_of t) a
  announce_nowhere none = announce_new a is (relay_of t) signed (path_missing t a.clock (destination a) _ refl (found_none none))

-- ---- the tests of a known path, as the code makes them: none where the announce revives it
unless : {A : Type 0} (b t u w : Bool) (x y z rest : A)
    → (not b and t then x otherwise not b and u then y otherwise not b and w then z otherwise rest)
    ≡ (b then rest otherwise t then x otherwise u then y otherwise w then z otherwise rest)
unfolding ◌and◌ ◌then◌otherwise◌
unless true t u w x y z rest = refl
unless false t u w x y z rest = refl

pub known_clauses : (r : Relay) (a : Arrival) (p : Path) (place : ℕ) → known_path r a p place
    ≡ (revived_by (emission_of (blob a)) p then Announce place true otherwise
    is_among (blob a) (held p.blobs) then Drop Replay otherwise
    worse_than (emission_of (blob a)) (hops a) p then Drop NotBetter otherwise
    (rated r.rate a.clock p.rate).dropped then Drop RateLimited otherwise
    Announce place true)
unfolding known_path first_of valued known_tests of_known revives revived_by worse_than view_at
known_clauses r a p place = unless _ _ _ _ _ _ _ _

pub ruleset known_steps = (known_clauses, knowing)

pub ruleset announce_steps = (announce_unsigned, announce_at, announce_nowhere, found_known, announce_long, judging)
