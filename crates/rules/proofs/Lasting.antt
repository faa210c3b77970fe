-- Wish 2, what was wanted: a keepalive is forwarded and renews its link, and a link whose keepalives come in time lives through any list of calls.
use Prim.Native.Nat.{ℕ, ◌+◌, ◌≤◌, ◌<◌}
use native.Mathlib.Decide.{ℕ_discrete, dec_lt}
use native.Mathlib.Omega.{arith}
use mathlib.Core.Bool.{Bool, true, false, not, false≢true}
use mathlib.Core.List.{List, [], ◌∷◌}
use mathlib.Core.Path.{◌≡◌, refl, sym, ap, subst, ◌∙◌}
use lib.Dec.{eqb, ltb}
use lib.ListN.{length, get_or, set, length-set}
use lib.Seq.{get_or-set_same, get_or-set_other, set_out}
use borrow.Author.Tests.{ltb-true, ltb-false, lt-ltb, eq-eqb, not-true}
use Rattle.octets.specs.Index.{◌and◌}
use Rattle.octets.specs.Choice.{◌then◌otherwise◌, ◌or◌, same}
use Rattle.octets.specs.Part.{patch}
use Rattle.octets.proofs.Index.{and_left, and_both, and_no, and_yes, first_holds, and_false}
use Rattle.octets.proofs.Choice.{then_true, then_false, or_no_left, or_no_right, same_eq, eq_same}
use Rattle.octets.proofs.Listed.{NoneHolds}
use Rattle.packet.specs.Header.{is_data}
use Rattle.packet.specs.Hash.{link_id}
use Rattle.numbers.specs.Numbers.{port_count, link_count, proved_lifetime, live}
use Rattle.rules.specs.Relay.{Port, Slot, empty, used, make_port, no_port, Path, Relay, holds, free, lowest_free, with_clock, with_rate, with_ports, with_locals, with_paths, with_links, with_returns, with_hashes}
use Rattle.rules.specs.View.{View, view_at, port_on, is_live_link, link_place, free_link}
use Rattle.rules.specs.Refusals.{slot_ok, link_ok, tables_ok, packet_refusal}
use Rattle.rules.specs.Arrival.{Arrival, header, hops, destination}
use Rattle.rules.specs.Ways.{Way, everywhere, by_path, along_link, by_return, blocked}
use Rattle.rules.specs.Tests.{is_there, already_known, from_answering_side, from_asking_side, leaving_port}
use Rattle.rules.specs.Outgoing.{outgoing, carried_packet}
use Rattle.rules.specs.Judging.{Plan, dropped, delivered, follows, plan, verdict, way_verdict, leaves, output_after}
use Rattle.rules.specs.Writes.{put_path, note_path, put_return, empty_return, link_record, put_link, renewed_link, renew_link, write_way, write_plan, remember, remembers, stamp, enact}
use Rattle.rules.specs.Calls.{Judgement, judged, judge, packet_call, TableCall, sets_port, sets_rate, adds, removes, renumbers, notes_path, rule_of}
use Rattle.rules.specs.Run.{Call, packet, on_tables, asks, saves, loads, answered, of_judgement, perform}
use Rattle.rules.specs.Keepalives.{keeps_alive, until, UpAt, Carried, accepted, fair, next_deadline, Starts, InTime, CarriedIf, Lasts}
use Rattle.rules.specs.declared.Link.{Link}
use Rattle.rules.specs.declared.Tally.{Tally}
use Rattle.rules.specs.declared.Verdict.TheVariants.{Forward}
use Rattle.rules.specs.declared.Answer.TheVariants.{Judged}
use Rattle.rules.proofs.Choices.{either}
use Rattle.rules.proofs.Tables.{table_length}
use Rattle.rules.proofs.Slots.{used_same}
use Rattle.rules.proofs.Rows.{table_passed, table_ok_lem}
use Rattle.rules.proofs.Lowest.{Lowest, lowest_later, lowest_place, lowest_found, found_lowest, lowest_other, lowest_renewed}
use Rattle.rules.proofs.Accepted.{accepted_packet}
use Rattle.rules.proofs.Stamped.{drop_kept, enact_clock, enact_links}
use Rattle.rules.proofs.Followed.{Followed, Planned, planned, is_request}
use Rattle.rules.proofs.Held.{judged_relay, packet_kept, table_kept_by, ask_kept, save_kept, load_kept}
use Rattle.rules.proofs.Valid.{valid_of, ok_of, accepted_valid}
use Rattle.rules.proofs.Keepalive.{names_link, short_enough, keepalive_follows}

-- ---- the link table through one packet
abbrev LowestLink : ℕ → List (Slot Link) → ℕ → Link → Type 0
LowestLink = Lowest (λ (l : Link). l.id) (λ (l : Link). l.expiry) link_count

renewed_id : (a : Arrival) (m : Link) → m.id ≡ (renewed_link a m).id
unfolding renewed_link
renewed_id a m = refl

renewed_until : (a : Arrival) (l : Link) (e : ℕ) → renewed_link a (until l e) ≡ until l (a.clock + proved_lifetime)
unfolding renewed_link ◌or◌
renewed_until a l e = refl

module _ (l : Link) (r : Relay) (size : length r.links ≡ link_count) (a : Arrival) (place e : ℕ) where
  module _ (low : LowestLink a.clock r.links place (until l e)) (lives : live a.clock e ≡ true) where
    shown : (view_at a.clock r).link l.id ≡ used (until l e)
    unfolding view_at link_place is_live_link
    shown = lowest_found _ _ link_count a.clock r.links place (until l e) low lives

    -- what the write leaves: the link is where it was, and is renewed or as it was
    abbrev Still : List (Slot Link) → Type 0
    Still links =
        (e' : ℕ)
        × LowestLink a.clock links place (until l e')
        × ((deadline : ℕ) → deadline ≤ a.clock + proved_lifetime → deadline ≤ e → deadline ≤ e')

    as_it_was : Still r.links
    as_it_was = (e, low, λ deadline _ h. h)

    -- a new link's id is not live, and its slot is free
    new_link : (p : Path) → is_there ((view_at a.clock r).link (link_id a.bytes)) ≡ false → Still (put_link a p r).links
    unfolding put_link with_links link_record free_link lowest_free free holds is_there
    new_link p none =
        let kept = lowest_other _ _ link_count a.clock r.links size place (until l e) low (free_link a.clock r) (link_record a p) other differs in
        (e, kept, λ deadline _ h. h)
      where
        differs : (link_record a p).id ≡ l.id → ⊥
        differs q =
            false≢true (sym none ∙ ap is_there (ap (view_at a.clock r).link q ∙ shown))

        other : free_link a.clock r ≡ place → ⊥
        other q = go (dec_lt (free_link a.clock r) link_count)
          where
            go : Dec (free_link a.clock r < link_count) → ⊥
            go (no n) = omega (arith, low.inside, q)
            go (yes n) =
                let is_free = first_holds (λ i. free (λ (x : Link). live a.clock x.expiry) (get_or r.links i empty)) link_count n in
                let here = ap (holds (λ (x : Link). live a.clock x.expiry)) (ap (λ (i : ℕ). get_or r.links i empty) q ∙ low.here) in
                false≢true (sym (not-true _ is_free) ∙ here ∙ lives)

    -- a packet of the link itself renews it
    own_renewed : (m : Link) → (view_at a.clock r).link (destination a) ≡ used m → l.id ≡ destination a
        → LowestLink a.clock (renew_link a m r).links place (until l (a.clock + proved_lifetime))
    unfolding renew_link with_links view_at link_place is_live_link
    own_renewed m found is =
        subst (λ (i : ℕ). LowestLink a.clock (set r.links i (used (renewed_link a m))) place after) (sym is_place)
        (subst (λ (k : Link). LowestLink a.clock (set r.links place (used k)) place after) (sym is_link)
        (lowest_renewed _ _ link_count a.clock r.links size place (until l e) low after refl))
      where
        after : Link
        after = until l (a.clock + proved_lifetime)

        is_place : link_place a.clock r (destination a) ≡ place
        is_place = ap (link_place a.clock r) (sym is) ∙ lowest_place _ _ link_count a.clock r.links place (until l e) low lives

        is_link : renewed_link a m ≡ after
        is_link = ap (renewed_link a) (used_same (sym found ∙ ap (view_at a.clock r).link (sym is) ∙ shown)) ∙ renewed_until a l e

    -- .. one of another link writes elsewhere
    renewed : (m : Link) → (view_at a.clock r).link (destination a) ≡ used m → Still (renew_link a m r).links
    unfolding renew_link with_links view_at link_place is_live_link
    renewed m found = go (same l.id (destination a)) refl
      where
        its_id : m.id ≡ destination a
        its_id = (found_lowest _ _ link_count a.clock r.links size (destination a) m found).0

        go : (b : Bool) → same l.id (destination a) ≡ b → Still (set r.links (link_place a.clock r (destination a)) (used (renewed_link a m)))
        go true h = (a.clock + proved_lifetime, own_renewed m found (same_eq l.id (destination a) h), λ deadline n _. n)
        go false h =
            (e, lowest_other _ _ link_count a.clock r.links size place (until l e) low _ (renewed_link a m) other differs, λ deadline _ k. k)
          where
            differs : (renewed_link a m).id ≡ l.id → ⊥
            differs q = false≢true (sym h ∙ eq_same l.id (destination a) (sym (renewed_id a m ∙ q) ∙ its_id))

            other : link_place a.clock r (destination a) ≡ place → ⊥
            other q =
                let same-record : used m ≡ used (until l e) = sym found ∙ ap (λ (i : ℕ). get_or r.links i empty) q ∙ low.here in
                false≢true (sym h ∙ eq_same l.id (destination a) (sym (ap (λ (k : Link). k.id) (used_same same-record)) ∙ its_id))

    way_links : (v : View) (w : Way) → Followed (view_at a.clock r) a w → Still (write_way v a w r).links
    unfolding write_way put_path put_return empty_return with_paths with_returns already_known
    way_links v (everywhere known) f = as_it_was
    way_links v (by_path p) f =
        either (λ (s : Relay). Still s.links) (is_data (header a)) (λ _. as_it_was)
        (λ data₀.
        new_link p (sym (and_yes _ (is_request (header a) f.found.1 f.found.2 data₀)) ∙ or_no_left _ _ f.unknown))
    way_links v (along_link m) f = renewed m f.found
    way_links v (by_return t) f = as_it_was
    way_links v (blocked why) f = as_it_was

    plan_links : (v : View) (todo : Plan) → Planned (view_at a.clock r) a todo → Still (write_plan v a todo r).links
    unfolding write_plan with_paths
    plan_links v (dropped reason) h = drop_kept v a (λ s. Still s.links) reason r as_it_was (λ paths. as_it_was)
    plan_links v delivered h = as_it_was
    plan_links v (follows w) h = way_links v w h

-- every accepted packet leaves the ports
module _ (v : View) (a : Arrival) (todo : Plan) (r : Relay) where
  way_ports : (w : Way) → (write_way v a w r).ports ≡ r.ports
  unfolding write_way put_path put_return put_link renew_link empty_return with_paths with_links with_returns
  way_ports (everywhere known) = refl
  way_ports (by_path p) = either (λ (s : Relay). s.ports ≡ r.ports) (is_data (header a)) (λ _. refl) (λ _. refl)
  way_ports (along_link m) = refl
  way_ports (by_return t) = refl
  way_ports (blocked why) = refl

  plan_ports : (todo : Plan) → (write_plan v a todo r).ports ≡ r.ports
  unfolding write_plan with_paths
  plan_ports (dropped reason) = drop_kept v a (λ s. s.ports ≡ r.ports) reason r refl (λ paths. refl)
  plan_ports delivered = refl
  plan_ports (follows w) = way_ports w

  enact_ports : (enact v a todo r).ports ≡ r.ports
  unfolding enact stamp with_clock remember with_hashes
  enact_ports = either (λ (s : Relay). s.ports ≡ r.ports) (remembers v a todo) (λ _. plan_ports todo) (λ _. plan_ports todo)

same_ports : (r s : Relay) → s.ports ≡ r.ports → (port : ℕ) → port_on r port ≡ true → port_on s port ≡ true
unfolding port_on
same_ports r s e port h = rw e h

-- ---- one packet

module _ (l : Link) (expiry : ℕ) (r : Relay) (a : Arrival) (output : List ℕ) (t : Tally) (up : UpAt l expiry a.clock r)
    (taken : eqb (packet_refusal r a (length output)) 0 ≡ true) where
  abbrev seen : View
  seen = view_at a.clock r

  abbrev todo : Plan
  todo = plan seen a

  abbrev R : Relay
  R = (perform (packet a output) r t).relay

  size : length r.links ≡ link_count
  size = table_length (slot_ok link_ok) link_count r.links (accepted_valid r a (length output) taken).links

  abbrev place : ℕ
  place = link_place a.clock r l.id

  lives_lowest : (live a.clock expiry ≡ true) × LowestLink a.clock r.links place (until l expiry)
  unfolding view_at link_place is_live_link
  lives_lowest =
      let (_, lives, low) = found_lowest _ _ link_count a.clock r.links size l.id (until l expiry) up.lives in
      (lives, low)

  its_clock : R.clock ≡ a.clock
  its_clock = ap (λ (s : Relay). s.clock) (judged_relay a r t output taken) ∙ enact_clock seen a todo r

  -- a link that is lowest behind what was planned is up
  up_after : (e : ℕ) → LowestLink a.clock (write_plan seen a todo r).links place (until l e) → a.clock < e → UpAt l e a.clock R
  unfolding view_at link_place is_live_link
  up_after e low later =
      let s = judged_relay a r t output taken in
      let ports : R.ports ≡ r.ports = ap (λ (x : Relay). x.ports) s ∙ enact_ports seen a todo r in
      let links : R.links ≡ (write_plan seen a todo r).links = ap (λ (x : Relay). x.links) s ∙ enact_links seen a todo r in
      record {
        lives =
            lowest_found _ _ link_count a.clock R.links place (until l e)
            (subst (λ (ls : List (Slot Link)). LowestLink a.clock ls place (until l e)) (sym links) low) (lt-ltb a.clock e later);
        asking = same_ports r R ports l.asking up.asking;
        answering = same_ports r R ports l.answering up.answering;
      }

  starts_after : (deadline e : ℕ) → UpAt l e a.clock R → deadline ≤ e → deadline ≤ a.clock + proved_lifetime → Starts l deadline R
  starts_after deadline e after lasts near =
      record {
        expiry = e;
        up = subst (λ (c : ℕ). UpAt l e c R) (sym its_clock) after;
        lasts = lasts;
        near = subst (λ (c : ℕ). deadline ≤ c + proved_lifetime) (sym its_clock) near;
      }

  -- whatever it is, the link stays
  any_packet : (deadline : ℕ) → deadline ≤ expiry → deadline ≤ a.clock + proved_lifetime → a.clock < deadline → Starts l deadline R
  any_packet deadline lasts near before =
      let (lives, low) = lives_lowest in
      let (e, after, kept) = plan_links l r size a place expiry low lives seen todo (planned seen a) in
      let still : deadline ≤ e = kept deadline near lasts in
      starts_after deadline e (up_after e after (omega (arith, still, before))) still near

  -- a keepalive follows its link and renews it
  module _ (k : keeps_alive r l a ≡ true) where
    abbrev was : Link
    was = until l expiry

    was_kept : keeps_alive r was a ≡ true
    unfolding keeps_alive from_answering_side from_asking_side leaving_port
    was_kept = k

    was_shown : seen.link (destination a) ≡ used was
    was_shown = ap seen.link (sym (names_link r l a k)) ∙ up.lives

    was_followed : todo ≡ follows (along_link was)
    unfolding view_at
    was_followed =
        keepalive_follows r was a was_kept seen was_shown refl up.asking up.answering (short_enough r was a was_kept)

    its_links : (write_plan seen a todo r).links ≡ (renew_link a was r).links
    unfolding write_plan write_way
    its_links = ap (λ (p : Plan). (write_plan seen a p r).links) was_followed

    keepalive_up : UpAt l (a.clock + proved_lifetime) a.clock R
    keepalive_up =
        let (lives, low) = lives_lowest in
        up_after (a.clock + proved_lifetime)
        (subst (λ (ls : List (Slot Link)). LowestLink a.clock ls place (until l (a.clock + proved_lifetime))) (sym its_links)
        (own_renewed l r size a place expiry low lives was was_shown (names_link r l a k)))
        (omega arith)

    keepalive_starts : Starts l (a.clock + proved_lifetime) R
    keepalive_starts = starts_after (a.clock + proved_lifetime) (a.clock + proved_lifetime) keepalive_up (omega arith) (omega arith)

    -- .. and is forwarded
    keepalive_forwarded : (perform (packet a output) r t).reply
        ≡ answered (Judged (Forward (leaving_port a (along_link l)) (length a.bytes))) (patch output 0 (carried_packet a.bytes))
    unfolding perform of_judgement packet_call judge judged verdict way_verdict output_after outgoing leaves leaving_port from_answering_side
        carried_packet ◌then◌otherwise◌
    keepalive_forwarded =
        ap (λ (j : Judgement). answered j.answer j.output) (then_true _ _ taken)
        ∙ ap (λ (p : Plan). answered (Judged (verdict seen a p)) (output_after seen a p output)) was_followed
        ∙ ap (λ (n : ℕ). answered (Judged (Forward (leaving_port a (along_link l)) n)) (patch output 0 (carried_packet a.bytes)))
        (length-set a.bytes 1 (hops a + 1))

-- ---- the first theorem: where the view at its clock has the link live and proved and both its ports are on, a keepalive that isn't refused, nor too long
-- for the port of the other side, is forwarded, and the link's expiry is its clock + 720. Whatever hashes are remembered: however often it came
pub keepalive_carried : (l : Link) (expiry : ℕ) (r : Relay) (a : Arrival) (output : List ℕ) (t : Tally) → UpAt l expiry a.clock r
    → keeps_alive r l a ≡ true → accepted (packet a output) r ≡ true
    → Carried l a output (perform (packet a output) r t).reply (perform (packet a output) r t).relay
unfolding accepted
keepalive_carried l expiry r a output t up k taken =
    record {
      forwarded = keepalive_forwarded l expiry r a output t up taken k;
      renewed = (keepalive_up l expiry r a output t up taken k).lives;
    }

-- ---- one call
rightly_left : (on x y : Bool) → (on or not (x or y)) ≡ true → x ≡ true → on ≡ true
unfolding ◌or◌
rightly_left true x y h e = refl
rightly_left false true y h e = h
rightly_left false false y h e = absurd (false≢true e)

rightly_right : (on x y : Bool) → (on or not (x or y)) ≡ true → y ≡ true → on ≡ true
unfolding ◌or◌
rightly_right true x y h e = refl
rightly_right false true y h e = h
rightly_right false false true h e = h
rightly_right false false false h e = absurd (false≢true e)

-- a port that is on stays so, unless it is set off
still_on : (r : Relay) (port : ℕ) (on : Bool) (mode size p : ℕ) → (port ≡ p → on ≡ true) → port_on r p ≡ true
    → port_on (with_ports (set r.ports port (make_port on mode size)) r) p ≡ true
unfolding port_on with_ports
still_on r port on mode size p rightly h = go (ℕ_discrete p port) (dec_lt port (length r.ports))
  where
    settings : Port
    settings = make_port on mode size

    go : Dec (p ≡ port) → Dec (port < length r.ports) → (ltb p port_count and (get_or (set r.ports port settings) p no_port).on) ≡ true
    go (yes q) (yes l) =
        let there = get_or-set_same r.ports port settings no_port l in
        and_both (and_left _ _ h)
        (ap (λ (x : Port). x.on) (ap (λ (i : ℕ). get_or (set r.ports port settings) i no_port) q ∙ there) ∙ rightly (sym q))
    go (yes q) (no l) = ap (λ (xs : List Port). ltb p port_count and (get_or xs p no_port).on) (set_out r.ports port settings (omega arith)) ∙ h
    go (no q) b = ap (λ (x : Port). ltb p port_count and x.on) (get_or-set_other r.ports port p settings no_port q) ∙ h

-- the link at a later clock that is before its deadline
up_later : (l : Link) (deadline : ℕ) (r : Relay) (s : Starts l deadline r) (clock : ℕ) → tables_ok r ≡ true → r.clock ≤ clock → clock < deadline
    → UpAt l s.expiry clock r
unfolding view_at link_place is_live_link
up_later l deadline r s clock fine after before =
    let e : ℕ = s.expiry in
    let size : length r.links ≡ link_count = table_length (slot_ok link_ok) link_count r.links (valid_of r fine).links in
    let low = (found_lowest _ _ link_count r.clock r.links size l.id (until l e) s.up.lives).2 in
    let now = lowest_later _ _ link_count r.clock clock after r.links _ (until l e) low in
    record {
      lives = lowest_found _ _ link_count clock r.links _ (until l e) now (lt-ltb clock e (omega (arith, before, s.lasts)));
      asking = s.up.asking;
      answering = s.up.answering;
    }

-- a call on the tables leaves links, and both ports on
table_up : (l : Link) (deadline : ℕ) (r : Relay) → Starts l deadline r → (c : TableCall) → fair l deadline (on_tables c) ≡ true
    → tables_ok r ≡ true → NoneHolds ((rule_of c).rows r) → Starts l deadline ((rule_of c).after r)
unfolding rule_of fair view_at link_place with_clock with_rate with_ports with_locals note_path with_paths port_on
table_up l deadline r s (sets_port port on mode size) h fine n =
    record {
      expiry = s.expiry;
      up =
          record {
            lives = s.up.lives;
            asking = still_on r port on mode size l.asking (λ q. rightly_left on _ _ h (eq-eqb port l.asking q)) s.up.asking;
            answering = still_on r port on mode size l.answering (λ q. rightly_right on _ _ h (eq-eqb port l.answering q)) s.up.answering;
          };
      lasts = s.lasts;
      near = s.near;
    }
table_up l deadline r s (sets_rate target grace penalty) h fine n =
    record {
      expiry = s.expiry;
      up = record { lives = s.up.lives; asking = s.up.asking; answering = s.up.answering };
      lasts = s.lasts;
      near = s.near;
    }
table_up l deadline r s (adds address) h fine n =
    record {
      expiry = s.expiry;
      up = record { lives = s.up.lives; asking = s.up.asking; answering = s.up.answering };
      lasts = s.lasts;
      near = s.near;
    }
table_up l deadline r s (removes address) h fine n =
    record {
      expiry = s.expiry;
      up = record { lives = s.up.lives; asking = s.up.asking; answering = s.up.answering };
      lasts = s.lasts;
      near = s.near;
    }
table_up l deadline r s (renumbers images) h fine n = absurd (false≢true h)
-- a mark sets the clock too
table_up l deadline r s (notes_path note destination clock) h fine n =
    let after : r.clock ≤ clock = ltb-false _ _ (or_no_right _ _ n.0) in
    let up = up_later l deadline r s clock fine after (ltb-true clock deadline h) in
    record {
      expiry = s.expiry;
      up = record { lives = up.lives; asking = s.up.asking; answering = s.up.answering };
      lasts = s.lasts;
      near = omega (arith, after, s.near);
    }

-- .. at a packet's clock
packet_up : (l : Link) (deadline : ℕ) (r : Relay) (s : Starts l deadline r) (a : Arrival) (room : ℕ) → eqb (packet_refusal r a room) 0 ≡ true
    → a.clock < deadline → UpAt l s.expiry a.clock r
packet_up l deadline r s a room taken before =
    up_later l deadline r s a.clock (ok_of r (accepted_valid r a room taken)) (accepted_packet r a room taken).not_before before

module _ (l : Link) (deadline : ℕ) where
  call_up : (c : Call) (r : Relay) (t : Tally) → Starts l deadline r → (accepted c r ≡ true → fair l deadline c ≡ true)
      → Starts l (next_deadline r l deadline c (accepted c r)) (perform c r t).relay
  unfolding accepted fair next_deadline
  call_up (packet a output) r t s justly = go (eqb (packet_refusal r a (length output)) 0) refl (keeps_alive r l a) refl
    where
      R : Relay
      R = (perform (packet a output) r t).relay

      before : eqb (packet_refusal r a (length output)) 0 ≡ true → a.clock < deadline
      before e = ltb-true a.clock deadline (justly e)

      later : (e : eqb (packet_refusal r a (length output)) 0 ≡ true) → UpAt l s.expiry a.clock r
      later e = packet_up l deadline r s a (length output) e (before e)

      near : eqb (packet_refusal r a (length output)) 0 ≡ true → deadline ≤ a.clock + proved_lifetime
      near e = let after = (accepted_packet r a (length output) e).not_before in omega (arith, after, s.near)

      go : (x : Bool) → eqb (packet_refusal r a (length output)) 0 ≡ x → (y : Bool) → keeps_alive r l a ≡ y
          → Starts l (eqb (packet_refusal r a (length output)) 0 and keeps_alive r l a then a.clock + proved_lifetime otherwise deadline) R
      go false h y k =
          subst (λ (n : ℕ). Starts l n R) (sym (then_false _ _ (and_no _ h)))
          (packet_kept (Starts l deadline) s a t output (λ e. absurd (false≢true (sym h ∙ e))))
      go true h true k =
          subst (λ (n : ℕ). Starts l n R) (sym (then_true _ _ (and_both h k)))
          (keepalive_starts l s.expiry r a output t (later h) h k)
      go true h false k =
          subst (λ (n : ℕ). Starts l n R) (sym (then_false _ _ (ap (λ (b : Bool). eqb (packet_refusal r a (length output)) 0 and b) k ∙ and_false _)))
          (any_packet l s.expiry r a output t (later h) h deadline s.lasts (near h) (before h))
  call_up (on_tables c) r t s justly = table_kept_by (Starts l deadline) s c t (λ e. table_up l deadline r s c (justly e) (table_ok_lem c r e) (table_passed c r e))
  call_up (asks q) r t s justly = ask_kept (Starts l deadline) s q t
  call_up (saves f room) r t s justly = save_kept (Starts l deadline) s f room t
  call_up (loads f file) r t s justly = load_kept (Starts l deadline) s f file t (λ e. absurd (false≢true (justly e)))

  call_carried : (c : Call) (r : Relay) (t : Tally) → Starts l deadline r → (accepted c r ≡ true → fair l deadline c ≡ true)
      → CarriedIf l c (accepted c r) r (perform c r t).reply (perform c r t).relay
  unfolding accepted fair CarriedIf
  call_carried (packet a output) r t s justly = λ e k.
      let now = packet_up l deadline r s a (length output) e (ltb-true a.clock deadline (justly e)) in
      keepalive_carried l s.expiry r a output t now k e
  call_carried (on_tables c) r t s justly = tt
  call_carried (asks q) r t s justly = tt
  call_carried (saves f room) r t s justly = tt
  call_carried (loads f file) r t s justly = tt

-- ---- the second theorem: from any relay that has the link up, over any list in which its keepalives come in time
pub keepalives_keep : (l : Link) (cs : List Call) (deadline : ℕ) (r : Relay) (t : Tally) → Starts l deadline r → InTime l deadline cs r t → Lasts l cs r t
unfolding InTime Lasts
keepalives_keep l [] deadline r t s in_time = tt
keepalives_keep l (c ∷ cs) deadline r t s in_time =
    let next : Starts l (next_deadline r l deadline c (accepted c r)) (perform c r t).relay = call_up l deadline c r t s in_time.0 in (
      call_carried l deadline c r t s in_time.0,
      (next.expiry, next.up.lives),
      keepalives_keep l cs (next_deadline r l deadline c (accepted c r)) (perform c r t).relay (perform c r t).tally next in_time.1,
    )
