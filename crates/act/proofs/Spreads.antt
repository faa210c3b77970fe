-- What is left by an accepted announce, from what the code wrote: spread or kept, and its path set.
use Prim.Native.Nat.{ℕ, ◌≤◌, ◌<◌}
use native.Mathlib.Omega.{arith}
use mathlib.Core.Bool.{Bool, true, not, false≢true}
use mathlib.Core.List.{List}
use mathlib.Core.Path.{◌≡◌, refl, sym, ap, ap₂, subst, ◌∙◌}
use lib.Dec.{eqb, ltb}
use lib.ListN.{length, get_or}
use borrow.Author.Tests.{ltb-true, not-false, eq-eqb, ne_eqb, lt-ltb, le-ltb}
use Rattle.octets.specs.Bytes.{Bytes}
use Rattle.octets.specs.Index.{◌and◌}
use Rattle.octets.specs.Choice.{◌then◌otherwise◌}
use Rattle.octets.specs.Part.{patch}
use Rattle.octets.proofs.Choice.{then_true, then_false, or_left, or_right, or_no}
use Rattle.octets.proofs.Part.{part_length}
use Rattle.packet.specs.Read.{longest_packet, payload, reads}
use Rattle.packet.specs.Announce.{blob_of}
use Rattle.packet.specs.Places.{blob_end}
use Rattle.numbers.specs.Numbers.{path_count}
use Rattle.rules.specs.Relay.{Slot, empty, used, Blobs, Path, Relay}
use Rattle.rules.specs.View.{View, view_at, port_on, port_size}
use Rattle.rules.specs.Arrival.{Arrival, destination}
use Rattle.rules.specs.Ways.{everywhere}
use Rattle.rules.specs.Tests.{is_there, revives, no_room}
use Rattle.rules.specs.Answers.{port_set}
use Rattle.rules.specs.Outgoing.{spread_ports, spread_packet, outgoing, exceeds}
use Rattle.rules.specs.Judging.{Plan, follows, spread_verdict, way_verdict, verdict, leaves, output_after}
use Rattle.rules.specs.Writes.{announced_rate, announced_place, write_plan}
use Rattle.rules.specs.declared.RateEntry.{RateEntry}
use Rattle.rules.specs.declared.Verdict.{Verdict}
use Rattle.rules.specs.declared.Verdict.TheVariants.{Spread, Kept}
use Rattle.rules.proofs.Followed.{Planned, planned}
use Rattle.tables.specs.Places.{address_width, own_at, table_size}
use Rattle.tables.specs.Layout.{relay_of, bytes_of}
use Rattle.lookup.proofs.Found.{path_found, path_missing}
use Rattle.update.specs.declared.Announced.{Announced}
use Rattle.update.specs.Written.{announced, path_written}
use Rattle.update.proofs.Enacted.{Announces, new_path_written, known_path_written}
use Rattle.outgoing.specs.Leaving.{CanLeave, spread_length}
use Rattle.outgoing.proofs.RuleLaws.{spread_exceeds}
use Rattle.plan.specs.declared.Arrived.{Arrived}
use Rattle.plan.specs.declared.Decision.TheVariants.{Announce}
use Rattle.plan.specs.Decided.{CanKnow, seen, arrival_of, path_at, decision}
use Rattle.plan.specs.Kinds.{revived_by}
use Rattle.forms.proofs.KindLaws.{announce_long}
use Rattle.forms.proofs.WayLaws.{announce_way}
use Rattle.plan.proofs.AnnounceLaws.{can_know}
use Rattle.act.specs.Stored.{blobs_stored, rate_known, rate_stored, path_put}
use Rattle.act.specs.Acted.{AcceptedOn, plan_on, verdict_on, written_on, output_on, CarriesOut, spreads_to, spread_on, spread_verdict_on, announced_by}
use Rattle.rules.proofs.Passed.{passed}
use Rattle.act.proofs.Inverted.{inverted, at_place}
use Rattle.act.proofs.Forwards.{can_leave}

-- ---- spread or kept
module _ (packet : List ℕ) (m : Arrived) (t output : List ℕ) where
  abbrev sent : List ℕ
  sent = spread_on packet t

  -- what the spreading leaves
  abbrev Spreads : Verdict → List ℕ → Type 0
  Spreads x o =
      (x ≡ spread_verdict_on packet m t) × (o ≡ (leaves x then patch output 0 sent otherwise output))

  module _ (h : reads longest_packet packet ≡ true) (size : length t ≡ table_size) where
    exceeding : (n : ℕ) → exceeds sent n ≡ ltb n (spread_length packet)
    unfolding relay_of
    exceeding = spread_exceeds (relay_of t).own packet h (part_length t own_at address_width (omega (arith, size)))

    pub spread_long : (long : ℕ) → long ≡ spread_length packet → longest_packet < long → Spreads Kept output
    unfolding spread_verdict leaves ◌then◌otherwise◌
    spread_long long e l = (sym (then_true _ _ (or_right _ (exceeding longest_packet ∙ lt-ltb longest_packet (spread_length packet) (omega (arith, e, l))))), refl)

    module _ (long ports : ℕ) (e : long ≡ spread_length packet) (all : ports ≡ port_set (spreads_to (relay_of t) m.port long)) where
      those : ports ≡ spread_ports (seen m t) (arrival_of packet m)
      unfolding spread_ports view_at
      those =
          let r : Relay = relay_of t in
          all
          ∙ ap (λ (n : ℕ). port_set (spreads_to r m.port n)) e
          ∙ sym (λ i. port_set (λ port. port_on r port and not (eqb port m.port) and not (exceeding (port_size r port) i)))

      pub spread_none : ports ≡ 0 → Spreads Kept output
      unfolding spread_verdict leaves ◌then◌otherwise◌
      spread_none z = (sym (then_true _ _ (or_left _ (eq-eqb _ 0 (sym those ∙ z)))), refl)

      pub spread_sent : (ports ≡ 0 → ⊥) → long ≤ longest_packet → (own : List ℕ) → own ≡ (relay_of t).own
          → (n : ℕ) (o : List ℕ) → n ≡ length (spread_packet own packet) → o ≡ patch output 0 (spread_packet own packet) → Spreads (Spread ports n) o
      unfolding spread_verdict leaves ◌then◌otherwise◌ view_at
      spread_sent some short own is n o q1 q2 =
          let same : spread_packet own packet ≡ sent = ap (λ (x : List ℕ). spread_packet x packet) is in
          let goes =
          or_no (ne_eqb _ 0 (λ z. some (those ∙ z))) (exceeding longest_packet ∙ le-ltb longest_packet (spread_length packet) (omega (arith, e, short))) in
          (ap₂ Spread those (q1 ∙ ap length same) ∙ sym (then_false _ _ goes), q2 ∙ ap (patch output 0) same)

-- ---- all of it
module _ (packet : List ℕ) (m : Arrived) (t : List ℕ) (ok : AcceptedOn packet m t) (place : ℕ) (known : Bool)
    (d : decision (relay_of t) (arrival_of packet m) ≡ Announce place known) where
  abbrev a : Arrival
  a = arrival_of packet m

  abbrev v : View
  v = seen m t

  abbrev r : Relay
  r = relay_of t

  pub announce_can_leave : CanLeave packet
  announce_can_leave = let k = inverted r a (Announce place known) d in can_leave packet m t ok (everywhere k.0) k.1

  pub announce_body_lem : blob_end ≤ length (payload packet)
  announce_body_lem =
      let k = inverted r a (Announce place known) d in
      let q = passed v a (everywhere k.0) k.1 in
      announce_long a q.1.form (announce_way v a k.0 q.0)

  -- the path that the view shows
  shown : (s : Slot Path) → plan_on packet m t ≡ follows (everywhere s) → v.path (destination a) ≡ s
  shown s e = let f : Planned v a (follows (everywhere s)) = subst (Planned v a) e (planned v a) in f.found

  placed : (s : Slot Path) → plan_on packet m t ≡ follows (everywhere s) → place ≡ announced_place a s r → place < path_count
  unfolding no_room view_at announced_place
  placed empty e at = subst (λ (n : ℕ). n < path_count) (sym at) (ltb-true _ _ (not-false _ (passed v a (everywhere empty) e).1.room))
  placed (used p) e at =
      (at_place place path_count (shown (used p) e) (path_found t m.clock (destination a) place at) (path_missing t m.clock (destination a) place at)).0

  pub announce_room : place < path_count
  announce_room = let k = inverted r a (Announce place known) d in placed k.0 k.1 k.2

  -- a known path is the one at the place
  known_at : (p : Path) → plan_on packet m t ≡ follows (everywhere (used p)) → place ≡ announced_place a (used p) r → p ≡ path_at t place
  unfolding announced_place
  known_at p e at =
      (at_place place path_count (shown (used p) e) (path_found t m.clock (destination a) place at) (path_missing t m.clock (destination a) place at)).1

  knowable : (s : Slot Path) → place ≡ announced_place a s r → is_there s ≡ known → known ≡ true → CanKnow t place
  unfolding announced_place is_there
  knowable empty at there is = absurd (false≢true (there ∙ is))
  knowable (used p) at there is = can_know t m.clock (destination a) place at ok.formed announce_room

  pub announce_known : known ≡ true → CanKnow t place
  announce_known is = let k = inverted r a (Announce place known) d in knowable k.0 k.2 k.3 is

  module _ (x : Announced) (blob : List ℕ) (rate : RateEntry) (set : x ≡ announced_by v a rate) (rated : rate ≡ rate_stored t place known m.clock blob)
      (is : blob ≡ blob_of (payload packet)) where
    rate_stored_lem : (s : Slot Path) → plan_on packet m t ≡ follows (everywhere s) → place ≡ announced_place a s r → is_there s ≡ known
        → rate_stored t place known m.clock blob ≡ announced_rate v a s
    unfolding rate_stored rate_known revived_by revives announced_rate is_there view_at
    rate_stored_lem empty e at there = then_false _ _ (sym there)
    rate_stored_lem (used p) e at there =
        then_true _ _ (sym there) ∙ ap₂ (λ (q : Path) (y : List ℕ). rate_known t q m.clock y) (sym (known_at p e at)) is

    set_by : (s : Slot Path) → plan_on packet m t ≡ follows (everywhere s) → place ≡ announced_place a s r → is_there s ≡ known → Announces v a s x blob
    unfolding announced_by
    set_by s e at there =
        record {
          destination_is = ap (λ (y : Announced). y.destination) set;
          port_is = ap (λ (y : Announced). y.port) set;
          hops_are = ap (λ (y : Announced). y.hops) set;
          next_hop_is = ap (λ (y : Announced). y.next_hop) set;
          expiry_is = ap (λ (y : Announced). y.expiry) set;
          rate_is = ap (λ (y : Announced). y.rate) set ∙ rated ∙ rate_stored_lem s e at there;
          blob_is = is;
        }

    path_left : (s : Slot Path) → plan_on packet m t ≡ follows (everywhere s) → place ≡ announced_place a s r → is_there s ≡ known → Bytes t
        → (u : List ℕ) → u ≡ path_put t place known x blob → u ≡ bytes_of (write_plan v a (follows (everywhere s)) r)
    unfolding announced_place is_there path_put blobs_stored view_at write_plan
    path_left empty e at there b u q =
        new_path_written v a t b ok.formed x blob place announce_room (set_by empty e at there) u at
        (q ∙ ap (λ (y : Blobs). path_written t place (announced x y)) (then_false _ _ (sym there)))
    path_left (used p) e at there b u q =
        known_path_written v a t b ok.formed x blob place announce_room p (set_by (used p) e at there) u at
        (ap (λ (n : ℕ). get_or r.paths n empty) at ∙ shown (used p) e)
        (q ∙ ap (λ (y : Blobs). path_written t place (announced x y)) (then_true _ _ (sym there)))

    pub announce_left : Bytes t → (w : Verdict) (output u o : List ℕ) → Spreads packet m t output w o
        → u ≡ path_put t place known x blob → CarriesOut packet m t output w u o
    unfolding verdict_on written_on output_on verdict output_after way_verdict outgoing view_at
    announce_left b w output u o spread q =
        let k = inverted r a (Announce place known) d in (
          spread.0 ∙ ap (verdict v a) (sym k.1),
          path_left k.0 k.1 k.2 k.3 b u q ∙ ap (λ (todo : Plan). bytes_of (write_plan v a todo r)) (sym k.1),
          spread.1
              ∙ ap (λ (y : Verdict). leaves y then patch output 0 (spread_on packet t) otherwise output) spread.0
              ∙ ap (λ (todo : Plan). output_after v a todo output) (sym k.1),
        )
