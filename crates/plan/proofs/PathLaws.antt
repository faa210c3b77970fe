-- Data and link requests: tests 6, 7, 12, 16 and 13 are all that can hold of them.
use Prim.Native.Nat.{ℕ, ◌+◌, ◌*◌}
use native.Mathlib.Omega.{arith}
use mathlib.Core.Bool.{Bool, true, false, not}
use borrow.Author.Tests.{ltb-true, ltb-false}
use Rattle.std.specs.Prelude.{Some, None, is_some}
use mathlib.Core.Path.{◌≡◌, refl, sym, ap, ◌∙◌}
use mathlib.Core.List.{List}
use lib.Dec.{ltb}
use lib.ListN.{length}
use Rattle.octets.specs.Index.{◌and◌}
use Rattle.octets.specs.Choice.{◌or◌, ◌then◌otherwise◌}
use Rattle.octets.proofs.Choice.{then_true, then_false, or_false}
use Rattle.octets.proofs.Part.{part_length}
use Rattle.packet.specs.Header.{packet_kind, type_two, of_kind_link, is_data, is_announce, is_link_request, is_proof}
use Rattle.packet.specs.Read.{longest_packet}
use Rattle.packet.specs.Hash.{link_id}
use Rattle.numbers.specs.Numbers.{link_count, path_count}
use Rattle.octets.specs.Listed.{first_of}
use Rattle.rules.specs.Relay.{Slot, empty, used, Path, Relay}
use Rattle.rules.specs.View.{View, path_place, link_place, free_link, expired_path, view_at, port_on, port_size}
use Rattle.rules.specs.Arrival.{Arrival, header, destination, is_link_proof}
use Rattle.rules.specs.Ways.{Way, by_path, blocked, no_path, path_way, way_on}
use Rattle.rules.specs.Tests.{is_there, no_way_on, why_blocked, already_known, wrong_side, not_signed, of_known, known_tests, leaving_port, port_off, too_long_for_port, no_room}
use Rattle.rules.specs.Outgoing.{path_packet, outgoing, exceeds}
use Rattle.rules.specs.Judging.{dropped, follows, onward_plan, onward_tests}
use Rattle.rules.specs.declared.Blocked.TheVariants.{NotAsking, NoPath, OnlyExpired}
use Rattle.rules.specs.declared.Reason.TheVariants.{NoWayOn, AlreadyKnown, PortOff, TooLongForPort, NoRoom}
use Rattle.tables.specs.Layout.{record_at, relay_of}
use Rattle.tables.specs.Places.{address_width, paths_at, path_width}
use Rattle.tables.specs.Fields.{path_next_hop_at}
use Rattle.tables.specs.Records.{path_of}
use Rattle.lookup.specs.Expired.{latest_of}
use Rattle.lookup.specs.Search.{found}
use Rattle.outgoing.specs.Leaving.{path_length}
use Rattle.outgoing.proofs.LeavingLaws.{path_length_lem}
use Rattle.lookup.proofs.Found.{found_some, found_below, found_none, found_is, path_found, path_missing, link_found, link_missing}
use Rattle.plan.proofs.Judged.{judging}
use Rattle.plan.specs.Decided.{CanRead, path_at, decided_way, decided, onward}
use Rattle.plan.specs.Kinds.{leaving, leaving_by, linking, requesting}
use Rattle.plan.specs.declared.Decision.TheVariants.{Drop, Data}
use Rattle.forms.proofs.KindLaws.{other_kind, request_left, no_link_proof}
use Rattle.plan.proofs.KindLaws.{decided_test}

module _ (a : Arrival) (announce : is_announce (header a) ≡ false) (link : of_kind_link (header a) ≡ false) (proof : is_proof (header a) ≡ false) where
  no_proof : is_link_proof a.bytes ≡ false
  no_proof = no_link_proof a proof

  path_way_lem : (v : View) → way_on v a ≡ (not (type_two (header a)) then blocked NotAsking otherwise path_way (v.path (destination a)) (v.expired (destination a)))
  unfolding way_on
  path_way_lem v = then_false _ _ announce ∙ then_false _ _ link ∙ then_false _ _ proof

  path_plan : (v : View) (p : Path) → onward_plan v a (by_path p)
      ≡ (is_link_request (header a) and is_there (v.link (link_id a.bytes)) then dropped AlreadyKnown otherwise
      not (v.on p.port) then dropped PortOff otherwise
      exceeds (outgoing v a (by_path p)) (v.size p.port) then dropped TooLongForPort otherwise
      is_link_request (header a) and not v.room_for_link then dropped NoRoom otherwise
      follows (by_path p))
  unfolding onward_plan onward_tests first_of no_way_on already_known wrong_side not_signed known_tests of_known leaving_port port_off
      too_long_for_port no_room ◌then◌otherwise◌ ◌and◌ ◌or◌
  path_plan v p = rw (no_proof, or_false (is_link_request (header a) and is_there (v.link (link_id a.bytes))), announce)

  module _ (r : Relay) where
    pub path_not_asking : type_two (header a) ≡ false → Drop (NoWayOn NotAsking) ≡ onward r a
    unfolding onward onward_plan onward_tests first_of no_way_on why_blocked decided ◌then◌otherwise◌
    path_not_asking one =
        let v : View = view_at a.clock r in
        let way : way_on v a ≡ blocked NotAsking = path_way_lem v ∙ rw one in
        sym (ap (λ (w : Way). decided r a (onward_plan v a w)) way)

    module _ (two : type_two (header a) ≡ true) where
      path_none : (view_at a.clock r).path (destination a) ≡ empty → Drop (NoWayOn (no_path (expired_path a.clock r (destination a)))) ≡ onward r a
      unfolding onward onward_plan onward_tests first_of no_way_on why_blocked decided view_at path_way ◌then◌otherwise◌
      path_none e =
          let v : View = view_at a.clock r in
          let expired = expired_path a.clock r (destination a) in
          let way : way_on v a ≡ blocked (no_path expired) = path_way_lem v ∙ rw two (ap (λ (s : Slot Path). path_way s expired) e) in
          sym (ap (λ (w : Way). decided r a (onward_plan v a w)) way)

      module _ (p : Path) (there : (view_at a.clock r).path (destination a) ≡ used p)
          (long : length (path_packet p.hops p.next_hop a.bytes) ≡ path_length p.hops a.bytes) where
        path_onward : onward r a
            ≡ (is_link_request (header a) and is_there ((view_at a.clock r).link (link_id a.bytes)) then Drop AlreadyKnown otherwise
            not (port_on r p.port) then Drop PortOff otherwise
            ltb (port_size r p.port) (length (path_packet p.hops p.next_hop a.bytes)) then Drop TooLongForPort otherwise
            is_link_request (header a) and not (ltb (free_link a.clock r) link_count) then Drop NoRoom otherwise
            decided_way r a (by_path p))
        unfolding onward decided path_way exceeds outgoing view_at ◌then◌otherwise◌
        path_onward =
            let v : View = view_at a.clock r in
            let way : way_on v a ≡ by_path p = path_way_lem v ∙ rw two (ap (λ (s : Slot Path). path_way s (v.expired (destination a))) there) in
            ap (λ (w : Way). decided r a (onward_plan v a w)) way
            ∙ ap (decided r a) (path_plan v p)
            ∙ simp decided_test

        path_data : is_data (header a) ≡ true → leaving_by r p a.bytes (Data (path_place a.clock r (destination a))) ≡ onward r a
        unfolding leaving decided_way ◌then◌otherwise◌ ◌and◌
        path_data is = sym (path_onward ∙ rw (other_kind (packet_kind (header a)) 0 2 is refl, is, long))

        path_request : is_data (header a) ≡ false → requesting r a p (path_place a.clock r (destination a)) ≡ onward r a
        unfolding requesting linking leaving decided_way ◌then◌otherwise◌ ◌and◌
        path_request other = sym (path_onward ∙ rw (request_left (header a) other announce proof, other, long))

-- ---- on tables, by what the search for the path answered
module _ (t : List ℕ) (a : Arrival) (announce : is_announce (header a) ≡ false) (link : of_kind_link (header a) ≡ false)
    (proof : is_proof (header a) ≡ false) (two : type_two (header a) ≡ true) (read : CanRead a.bytes t) where
  pub path_nowhere : None ≡ found path_count (path_place a.clock (relay_of t) (destination a))
      → Drop (NoWayOn (no_path (expired_path a.clock (relay_of t) (destination a)))) ≡ onward (relay_of t) a
  path_nowhere none = path_none a announce link proof (relay_of t) two (path_missing t a.clock (destination a) _ refl (found_none none))

  module _ {i : ℕ} (answer : Some i ≡ found path_count (path_place a.clock (relay_of t) (destination a))) where
    abbrev at : i ≡ path_place a.clock (relay_of t) (destination a)
    at = (found_some answer).0

    there : (view_at a.clock (relay_of t)).path (destination a) ≡ used (path_at t i)
    there = path_found t a.clock (destination a) i at (found_below _ answer)

    -- how long it is that leaves by the path: its next hop is sixteen bytes
    leaves_long : length (path_packet (path_at t i).hops (path_at t i).next_hop a.bytes) ≡ path_length (path_at t i).hops a.bytes
    unfolding path_of
    leaves_long =
        let wide : length (record_at paths_at path_width t i) ≡ path_width = part_length t (paths_at + path_width * i) path_width (omega (arith, read.size, found_below _ answer)) in
        path_length_lem longest_packet a.bytes read.readable _ _
        (part_length (record_at paths_at path_width t i) path_next_hop_at address_width (omega (arith, wide)))

    pub data_at : is_data (header a) ≡ true → leaving_by (relay_of t) (path_at t i) a.bytes (Data i) ≡ onward (relay_of t) a
    data_at is =
        ap (λ (k : ℕ). leaving_by (relay_of t) (path_at t i) a.bytes (Data k)) at
        ∙ path_data a announce link proof (relay_of t) two (path_at t i) there leaves_long is

    pub request_at : is_data (header a) ≡ false → requesting (relay_of t) a (path_at t i) i ≡ onward (relay_of t) a
    request_at other =
        ap (requesting (relay_of t) a (path_at t i)) at
        ∙ path_request a announce link proof (relay_of t) two (path_at t i) there leaves_long other

-- ---- why there is no live path, by the latest time that the search answered
pub expired_there : (s : Slot ℕ) {time : ℕ} → Some time ≡ latest_of s → OnlyExpired time ≡ no_path s
unfolding latest_of no_path
expired_there empty e = grind arith
expired_there (used t) e = ap OnlyExpired (grind arith)

pub expired_none : (s : Slot ℕ) → None ≡ latest_of s → NoPath ≡ no_path s
unfolding latest_of no_path
expired_none empty e = refl
expired_none (used t) e = grind arith

-- ---- whether an id is live, by what the search answered
pub id_known : (t : List ℕ) (clock : ℕ) (id : List ℕ)
    → is_some (found link_count (link_place clock (relay_of t) id)) ≡ is_there ((view_at clock (relay_of t)).link id)
unfolding is_there
id_known t clock id = found_is link_count place ∙ go (ltb place link_count) refl
  where
    place : ℕ
    place = link_place clock (relay_of t) id

    go : (b : Bool) → ltb place link_count ≡ b → b ≡ is_there ((view_at clock (relay_of t)).link id)
    go true q = sym (ap is_there (link_found t clock id place refl (ltb-true place link_count q)))
    go false q = sym (ap is_there (link_missing t clock id place refl (ltb-false place link_count q)))

-- ---- a link request
module _ (r : Relay) (a : Arrival) (p : Path) (place : ℕ) where
  pub request_known : is_there ((view_at a.clock r).link (link_id a.bytes)) ≡ true → Drop AlreadyKnown ≡ requesting r a p place
  unfolding requesting
  request_known k = sym (then_true _ _ k)

  pub request_new : is_there ((view_at a.clock r).link (link_id a.bytes)) ≡ false
      → leaving_by r p a.bytes (linking r a.clock (link_id a.bytes) place) ≡ requesting r a p place
  unfolding requesting
  request_new new = sym (then_false _ _ new)

pub ruleset path_steps = (path_not_asking, path_nowhere, data_at, request_at, found_below, judging)
