-- Wish 13: two announces at one clock may come in either order. The second reads of the tables what it read alone: its own hash, its own destination's path,
-- whether there is room, and what the first leaves as it was.
use Prim.Native.Nat.{ℕ, ◌<◌}
use native.Mathlib.Nat.{le_refl}
use native.Mathlib.Decide.{dec_lt, ℕ_discrete}
use native.Mathlib.Omega.{arith}
use mathlib.Core.Bool.{Bool, true, false, not, false≢true}
use mathlib.Core.List.{List, []}
use mathlib.Core.Path.{◌≡◌, refl, sym, ap, ap₂, subst, ◌∙◌}
use lib.Dec.{eqb, ltb, leb, lit<}
use lib.ListN.{length, get_or, set}
use lib.Seq.{get_or-set_same, get_or-set_other}
use borrow.Author.Tests.{lt-ltb, le-ltb}
use Rattle.octets.specs.Index.{◌and◌}
use Rattle.octets.specs.Choice.{◌then◌otherwise◌, ◌or◌, same}
use Rattle.octets.specs.Listed.{◌gives◌otherwise◌, first_of}
use Rattle.octets.proofs.Index.{and_no, and_yes, first_before}
use Rattle.octets.proofs.Choice.{then_true, then_false, ne_same, same_eq}
use Rattle.octets.proofs.Listed.{NoneHolds, none_first, past}
use Rattle.packet.specs.Header.{is_announce}
use Rattle.packet.specs.Read.{reading_refusal}
use Rattle.packet.specs.Write.{least_output}
use Rattle.numbers.specs.Numbers.{path_count, hash_count, live, clock_limit, path_lifetime}
use Rattle.rules.specs.Relay.{Slot, empty, used, Path, Remembered, Ring, Relay, make_relay, holds, lowest, free, lowest_free, with_clock, with_paths, with_hashes}
use Rattle.rules.specs.View.{View, view_at, port_on, port_mode, port_size, is_local, local_place, is_live_path, is_live_hash, path_place, link_place, hash_place, free_path}
use Rattle.rules.specs.Refusals.{slot_ok, path_ok, tables_ok, packet_rows, refusal_by, packet_refusal}
use Rattle.rules.specs.Arrival.{Arrival, header, destination, hash}
use Rattle.rules.specs.Ways.{everywhere, by_path, along_link, by_return, blocked}
use Rattle.rules.specs.Tests.{not_ours, for_marked_path, tested_as_duplicate, duplicate, own_announce, delivered_here, already_known, known_tests, port_off, too_long_for_port, no_room}
use Rattle.rules.specs.Answers.{verdict_kind}
use Rattle.rules.specs.Outgoing.{spread_packet, spread_ports, outgoing}
use Rattle.rules.specs.Judging.{Plan, dropped, delivered, follows, early_tests, onward_tests, onward_plan, plan, way_verdict, verdict, output_after}
use Rattle.rules.specs.Writes.{put_next, remembers, remember, announced_rate, announced_path, announced_place, put_path, write_way, write_plan, stamp, enact}
use Rattle.rules.specs.Calls.{Judgement, packet_call}
use Rattle.rules.specs.Run.{packet, answered, of_judgement, perform}
use Rattle.rules.specs.DeadPaths.{says_accepted}
use Rattle.rules.specs.declared.Answer.TheVariants.{Judged}
use Rattle.rules.specs.declared.Tally.{Tally}
use Rattle.rules.proofs.Choices.{either}
use Rattle.rules.proofs.Tables.{table_length}
use Rattle.rules.proofs.Slots.{used_same, found_key, none_live}
use Rattle.octets.proofs.JoinedTests.{none_joined}
use Rattle.rules.proofs.Passed.{Passed, passed}
use Rattle.rules.proofs.Followed.{Planned, planned}
use Rattle.rules.proofs.Accepted.{accepted_packet}
use Rattle.rules.proofs.Held.{judged_relay, judged_reply}
use Rattle.rules.proofs.ChattyPlan.{is_spread, spread_announce, announce_way}
use Rattle.rules.proofs.Announced.{LowestPath}
use Rattle.rules.proofs.Lowest.{lowest_found, found_lowest, lowest_renewed}
use Rattle.rules.proofs.Valid.{Valid, valid_of, step_ok}
use Rattle.history.specs.Known.{now_under}
use Rattle.history.specs.EitherOrder.{next, free_at, Meet, EitherOrder}
use Rattle.history.proofs.Looking.{found_below, none_over, Harmless, other_key}
use Rattle.history.proofs.Taken.{spare_dead}
use Rattle.history.proofs.Agrees.{path_kind}

-- ---- one announce, spread or Kept
accepted_plan : (v : View) (a : Arrival) (todo : Plan) → Planned v a todo → leb 4 (verdict_kind (verdict v a todo)) ≡ true
    → todo ≡ follows (everywhere (v.path (destination a)))
unfolding verdict way_verdict
accepted_plan v a (dropped reason) p h = absurd (false≢true h)
accepted_plan v a delivered p h = absurd (false≢true h)
accepted_plan v a (follows (everywhere known)) p h = ap (λ (s : Slot Path). follows (everywhere s)) (sym p.found)
accepted_plan v a (follows (by_path q)) p h = absurd (false≢true h)
accepted_plan v a (follows (along_link l)) p h = absurd (false≢true h)
accepted_plan v a (follows (by_return t)) p h = absurd (false≢true h)
accepted_plan v a (follows (blocked why)) p h = absurd (false≢true h)

lifetime_some : (mode : ℕ) → 0 < path_lifetime mode
unfolding path_lifetime
lifetime_some mode =
    either (λ (n : ℕ). 0 < n) _ (λ _. lit< tt)
    (λ _. either (λ (n : ℕ). 0 < n) _ (λ _. lit< tt) (λ _. lit< tt))

-- a relay with other paths and hashes, at another clock
unfoldable changed : ℕ → List (Slot Path) → Ring Remembered → Relay → Relay
changed clock paths hashes r = make_relay r.own clock r.rate r.ports r.locals paths r.links r.returns hashes

module _ (a : Arrival) (r : Relay) where
  abbrev seen : View
  seen = view_at a.clock r

  abbrev known : Slot Path
  known = seen.path (destination a)

  -- the path that it gives
  abbrev given : Path
  given = announced_path seen a known

  abbrev new_paths : List (Slot Path)
  new_paths = set r.paths (announced_place a known r) (used given)

  abbrev new_hashes : Ring Remembered
  new_hashes = remembers seen a (follows (everywhere known)) then (remember a r).hashes otherwise r.hashes

  abbrev one : Relay
  one = changed a.clock new_paths new_hashes r

  written : (b : Bool) → stamp a b (with_paths new_paths r) ≡ changed a.clock new_paths (b then (remember a r).hashes otherwise r.hashes) r
  unfolding stamp changed remember with_hashes with_clock with_paths ◌then◌otherwise◌
  written true = refl
  written false = refl

  module _ (t : Tally) (output : List ℕ) where
    is_accepted_lem : says_accepted (perform (packet a output) r t).reply ≡ true → eqb (packet_refusal r a (length output)) 0 ≡ true
    unfolding perform of_judgement packet_call
    is_accepted_lem =
        either (λ (j : Judgement). says_accepted (answered j.answer j.output) ≡ true → eqb (packet_refusal r a (length output)) 0 ≡ true) _
        (λ e _. e) (λ _ h. absurd (false≢true h))

    is_planned : says_accepted (perform (packet a output) r t).reply ≡ true → plan seen a ≡ follows (everywhere known)
    is_planned h = accepted_plan seen a (plan seen a) (planned seen a) (sym (ap says_accepted (judged_reply a r t output (is_accepted_lem h))) ∙ h)

    is_one : eqb (packet_refusal r a (length output)) 0 ≡ true → plan seen a ≡ follows (everywhere known) → (perform (packet a output) r t).relay ≡ one
    unfolding enact write_plan write_way put_path
    is_one e p =
        judged_relay a r t output e
        ∙ ap (λ (todo : Plan). enact seen a todo r) p
        ∙ written (remembers seen a (follows (everywhere known)))

  -- ---- what it leaves: its own path, and every other as it was
  given_lives : live a.clock given.expiry ≡ true
  unfolding announced_path
  given_lives = lt-ltb a.clock _ (omega (arith, lifetime_some (seen.mode a.port)))

  module _ (valid : Valid r) (room : free_path a.clock r < path_count) where
    size : length r.paths ≡ path_count
    size = table_length (slot_ok path_ok) path_count r.paths valid.paths

    -- the place that it takes is free, or its own
    place_below : (s : Slot Path) → known ≡ s → announced_place a s r < path_count
    unfolding announced_place view_at path_place is_live_path
    place_below empty f = room
    place_below (used q) f = found_below _ path_count r.paths size q f

    place_old : (s : Slot Path) → known ≡ s → Harmless path_kind a.clock r.paths (get_or r.paths (announced_place a s r) empty) (destination a)
    unfolding announced_place view_at path_place is_live_path free_path holds
    place_old empty f x there lives =
        absurd (false≢true (sym (spare_dead (path_kind.alive a.clock) path_count r.paths room) ∙ ap (holds (path_kind.alive a.clock)) there ∙ lives))
    place_old (used q) f x there lives = (found_key (path_kind.alive a.clock) (λ p. p.destination) (destination a) path_count r.paths size x there).0

    others_then : (d : List ℕ) → same (destination a) d ≡ false → (view_at a.clock one).path d ≡ seen.path d
    unfolding view_at changed path_place is_live_path announced_path
    others_then d differs =
        other_key path_kind a.clock r.paths size (announced_place a known r) (place_below known refl) (destination a) (place_old known refl) (used given)
        (λ y q _. ap (λ (x : Path). x.destination) (sym (used_same q))) a.clock (le_refl a.clock) d differs

    -- no live path of its destination lies below that place
    none_live_there : known ≡ empty → (j : ℕ) (y : Path) → get_or r.paths j empty ≡ used y → y.destination ≡ destination a
        → live a.clock y.expiry ≡ false
    unfolding view_at path_place is_live_path
    none_live_there f j y there q = go (live a.clock y.expiry) refl
      where
        go : (b : Bool) → live a.clock y.expiry ≡ b → b ≡ false
        go true lives = absurd (none_live (path_kind.alive a.clock) (λ p. p.destination) (destination a) path_count r.paths size f j y there lives q)
        go false lives = refl

    lowest_given : (s : Slot Path) → known ≡ s
        → LowestPath a.clock (set r.paths (announced_place a s r) (used given)) (announced_place a s r) given
    unfolding view_at path_place is_live_path announced_place announced_path
    lowest_given empty f =
        record {
          here = get_or-set_same r.paths _ _ empty (omega (arith, size));
          inside = room;
          below = λ j y l there q. none_live_there f j y (sym (get_or-set_other r.paths _ j _ empty (omega arith)) ∙ there) q;
        }
    lowest_given (used q) f =
        let (key, _, low) = found_lowest _ _ path_count a.clock r.paths size (destination a) q f in
        lowest_renewed _ _ path_count a.clock r.paths size _ q low given (sym key)

    own_then : (view_at a.clock one).path (destination a) ≡ used given
    unfolding view_at changed path_place is_live_path announced_path
    own_then = lowest_found _ _ path_count a.clock new_paths _ given (lowest_given known refl) given_lives

    paths_then : (d : List ℕ) → (view_at a.clock one).path d ≡ now_under (destination a) (used given) seen.path d
    unfolding now_under
    paths_then d = go (same (destination a) d) refl
      where
        go : (b : Bool) → same (destination a) d ≡ b → (view_at a.clock one).path d ≡ (same (destination a) d then used given otherwise seen.path d)
        go true q =
            subst (λ (d : List ℕ). (view_at a.clock one).path d ≡ used given) (same_eq (destination a) d q) own_then
            ∙ sym (then_true _ _ q)
        go false q = others_then d q ∙ sym (then_false _ _ q)

  -- a slot that was free is free, if it isn't that place
  free_then : (i : ℕ) → (i ≡ announced_place a known r → ⊥) → free_at a.clock r i ≡ true → free_at a.clock one i ≡ true
  unfolding free_at changed
  free_then i other f = ap (free (λ p. live a.clock p.expiry)) (get_or-set_other r.paths _ i _ empty other) ∙ f

-- there is room where a slot is free
free_room : (clock : ℕ) (r : Relay) (i : ℕ) → i < path_count → free_at clock r i ≡ true → free_path clock r < path_count
unfolding free_at free_path lowest_free
free_room clock r i l f = go (dec_lt (free_path clock r) path_count)
  where
    go : Dec (free_path clock r < path_count) → free_path clock r < path_count
    go (yes m) = m
    go (no m) =
        absurd (false≢true (sym (first_before (λ i. free (λ p. live clock p.expiry) (get_or r.paths i empty)) path_count i (omega arith)) ∙ f))

-- ---- the other announce, on what the first left
module _ (r : Relay) (t : Tally) (a b : Arrival) (out_a out_b : List ℕ) (m : Meet r t a b out_a out_b) where
  abbrev v : View
  v = view_at b.clock r

  abbrev v' : View
  v' = view_at b.clock (one a r)

  valid : Valid r
  valid = valid_of r m.ok

  accepted_b : eqb (packet_refusal r b (length out_b)) 0 ≡ true
  accepted_b = is_accepted_lem b r t out_b m.other_alone

  planned_b : plan v b ≡ follows (everywhere (v.path (destination b)))
  planned_b = is_planned b r t out_b m.other_alone

  first_relay : (perform (packet a out_a) r t).relay ≡ one a r
  first_relay = is_one a r t out_a (is_accepted_lem a r t out_a m.one_alone) (is_planned a r t out_a m.one_alone)

  first_ok : tables_ok (one a r) ≡ true
  first_ok = subst (λ (s : Relay). tables_ok s ≡ true) first_relay (step_ok (packet a out_a) r t m.ok)

  -- of two free slots one is left
  room_before : free_path a.clock r < path_count
  room_before = free_room a.clock r m.i m.i_there m.i_free

  room_between : free_path b.clock (one a r) < path_count
  room_between = subst (λ (c : ℕ). free_path c (one a r) < path_count) m.clock (go (ℕ_discrete m.i place))
    where
      place : ℕ
      place = announced_place a ((view_at a.clock r).path (destination a)) r

      go : Dec (m.i ≡ place) → free_path a.clock (one a r) < path_count
      go (yes q) = free_room a.clock (one a r) m.j m.j_there (free_then a r m.j (λ e. m.apart (q ∙ sym e)) m.j_free)
      go (no q) = free_room a.clock (one a r) m.i m.i_there (free_then a r m.i q m.i_free)

  paths_between : (d : List ℕ) → v'.path d ≡ now_under (destination a) (used (given a r)) v.path d
  paths_between =
      subst (λ (c : ℕ). (d : List ℕ) → (view_at c (one a r)).path d ≡ now_under (destination a) (used (given a r)) (view_at c r).path d) m.clock
      (paths_then a r valid room_before)

  same_path : v'.path (destination b) ≡ v.path (destination b)
  unfolding now_under
  same_path = paths_between (destination b) ∙ then_false _ _ (ne_same (destination a) (destination b) m.destinations)

  -- ---- test 2: the first hash is another one
  still_new : v.remembered (hash b) ≡ false → v'.remembered (hash b) ≡ false
  unfolding view_at changed hash_place is_live_hash remember with_hashes put_next
  still_new new =
      either (λ (ring : Ring Remembered). ltb (lowest (is_live_hash b.clock (hash b)) hash_count ring.slots) hash_count ≡ false)
      (remembers (seen a r) a (follows (everywhere (known a r))))
      (λ _. none_over (is_live_hash b.clock (hash b)) hash_count r.hashes.slots _ _ new (and_no _ (ne_same (hash a) (hash b) m.hashes)))
      (λ _. new)

  passes : Passed v b (everywhere (v.path (destination b)))
  passes = (passed v b _ planned_b).1

  tested_same : tested_as_duplicate v' b ≡ tested_as_duplicate v b
  unfolding tested_as_duplicate for_marked_path
  tested_same = rw same_path

  not_duplicate : duplicate v' b ≡ false
  unfolding duplicate
  not_duplicate = go (tested_as_duplicate v b) refl
    where
      go : (tested : Bool) → tested_as_duplicate v b ≡ tested → (tested_as_duplicate v' b and v'.remembered (hash b)) ≡ false
      go true e = and_yes _ (tested_same ∙ e) ∙ still_new (sym (and_yes _ e) ∙ passes.new)
      go false e = and_no _ (tested_same ∙ e)

  -- ---- so it is planned as it was alone
  room_second : (s : Slot Path) → no_room v' b (everywhere s) ≡ false
  unfolding no_room view_at
  room_second empty = ap not (lt-ltb _ _ room_between)
  room_second (used p) = refl

  announce_b : is_announce (header b) ≡ true
  unfolding is_spread
  announce_b = spread_announce v b (ap is_spread (passed v b _ planned_b).0)

  -- the tests of its path read of the view what didn't change
  known_second : NoneHolds (known_tests v' b (everywhere (v.path (destination b))))
  unfolding known_tests view_at changed
  known_second = passes.known

  planned_second : plan v' b ≡ follows (everywhere (v.path (destination b)))
  unfolding plan onward_plan early_tests onward_tests not_ours own_announce delivered_here already_known port_off
      too_long_for_port outgoing spread_packet view_at port_on port_size is_local local_place link_place changed
  planned_second =
      none_first (early_tests v' b) _ (passes.ours, (not_duplicate, (passes.form, (passes.not_own, (passes.elsewhere, (passes.few_hops, tt))))))
      ∙ ap (onward_plan v' b) (announce_way v' b announce_b ∙ ap everywhere same_path)
      ∙ none_first (onward_tests v' b (everywhere (v.path (destination b)))) _ (
        passes.some_way,
        (
          passes.unknown,
          (
            passes.side,
            (
              passes.signed,
              none_joined dropped (known_tests v' b (everywhere (v.path (destination b)))) _ known_second
                  (passes.port_on, (passes.fits, (room_second _, tt))),
            ),
          ),
        ),
      )

  accepted_second : eqb (packet_refusal (one a r) b (length out_b)) 0 ≡ true
  unfolding refusal_by packet_rows port_on port_size changed
  accepted_second =
      ap (λ (n : ℕ). eqb n 0)
      (past _ 7 _ _ (ap not first_ok)
      ∙ ap (λ (late : Bool).
      first_of
      (ltb (length out_b) least_output gives 6 otherwise not (port_on r b.port) gives 4 otherwise leb clock_limit b.clock or late gives 5 otherwise [])
      (reading_refusal (port_size r b.port) b.bytes))
      (le-ltb b.clock a.clock (omega (arith, m.clock)) ∙ sym (le-ltb b.clock r.clock (accepted_packet r b (length out_b) accepted_b).not_before))
      ∙ sym (past _ 7 _ _ (ap not m.ok)))
      ∙ accepted_b

  -- ---- and answered, output bytes too
  same_reply : (s : Slot Path) → answered (Judged (verdict v' b (follows (everywhere s)))) (output_after v' b (follows (everywhere s)) out_b)
      ≡ answered (Judged (verdict v b (follows (everywhere s)))) (output_after v b (follows (everywhere s)) out_b)
  unfolding verdict output_after way_verdict outgoing spread_packet spread_ports view_at port_on port_size changed
  same_reply s = refl

  second_reply : (u : Tally) → (perform (packet b out_b) (one a r) u).reply ≡ (perform (packet b out_b) r t).reply
  second_reply u =
      judged_reply b (one a r) u out_b accepted_second
      ∙ ap (λ (todo : Plan). answered (Judged (verdict v' b todo)) (output_after v' b todo out_b)) planned_second
      ∙ same_reply (v.path (destination b))
      ∙ sym (judged_reply b r t out_b accepted_b
      ∙ ap (λ (todo : Plan). answered (Judged (verdict v b todo)) (output_after v b todo out_b)) planned_b)

  answered_second : (next b out_b (perform (packet a out_a) r t)).reply ≡ (perform (packet b out_b) r t).reply
  answered_second = rw first_relay (second_reply _)

  -- ---- and its path is the same
  second_relay : (next b out_b (perform (packet a out_a) r t)).relay ≡ one b (one a r)
  second_relay =
      rw first_relay
      (is_one b (one a r) _ out_b accepted_second (planned_second ∙ ap (λ (s : Slot Path). follows (everywhere s)) (sym same_path)))

  given_alike : (s : Slot Path) → announced_path v' b s ≡ announced_path v b s
  unfolding announced_path announced_rate view_at port_mode changed
  given_alike empty = refl
  given_alike (used p) = refl

  same_given : given b (one a r) ≡ given b r
  same_given = ap (announced_path v' b) same_path ∙ given_alike (v.path (destination b))

  paths_second : (d : List ℕ) → (view_at b.clock (next b out_b (perform (packet a out_a) r t)).relay).path d
      ≡ now_under (destination b) (used (given b r)) (now_under (destination a) (used (given a r)) v.path) d
  unfolding now_under
  paths_second d =
      ap (λ (s : Relay). (view_at b.clock s).path d) second_relay
      ∙ paths_then b (one a r) (valid_of (one a r) first_ok) room_between d
      ∙ ap₂ (λ (p : Path) (s : Slot Path). same (destination b) d then used p otherwise s) same_given (paths_between d)

-- ---- the other way round
swapped : (r : Relay) (t : Tally) (a b : Arrival) (out_a out_b : List ℕ) → Meet r t a b out_a out_b → Meet r t b a out_b out_a
swapped r t a b out_a out_b m =
    record {
      ok = m.ok;
      clock = sym m.clock;
      destinations = λ e. m.destinations (sym e);
      hashes = λ e. m.hashes (sym e);
      one_alone = m.other_alone;
      other_alone = m.one_alone;
      i = m.i;
      j = m.j;
      apart = m.apart;
      i_there = m.i_there;
      j_there = m.j_there;
      i_free = subst (λ (c : ℕ). free_at c r m.i ≡ true) m.clock m.i_free;
      j_free = subst (λ (c : ℕ). free_at c r m.j ≡ true) m.clock m.j_free;
    }

under_both : {A : Type 0} (j k : List ℕ) → (j ≡ k → ⊥) → (x y : A) (f : List ℕ → A) (d : List ℕ)
    → now_under k y (now_under j x f) d ≡ now_under j x (now_under k y f) d
unfolding now_under ◌then◌otherwise◌
under_both {A} j k apart x y f d = go (same j d) refl (same k d) refl
  where
    go : (p : Bool) → same j d ≡ p → (q : Bool) → same k d ≡ q → (q then y otherwise (p then x otherwise f d)) ≡ (p then x otherwise (q then y otherwise f d))
    go true e true g = absurd (apart (same_eq j d e ∙ sym (same_eq k d g)))
    go true e false g = refl
    go false e true g = refl
    go false e false g = refl

-- THE CLAIM
pub either_order : EitherOrder
either_order r t a b out_a out_b m =
    let n : Meet r t b a out_b out_a = swapped r t a b out_a out_b m in
    record {
      one_second = answered_second r t b a out_b out_a n;
      other_second = answered_second r t a b out_a out_b m;
      paths = λ d.
          subst (λ (c : ℕ). (view_at c (next b out_b (perform (packet a out_a) r t)).relay).path d
          ≡ now_under (destination b) (used (given b r)) (now_under (destination a) (used (given a r)) (view_at c r).path) d)
          (sym m.clock) (paths_second r t a b out_a out_b m d)
          ∙ under_both (destination a) (destination b) m.destinations _ _ _ d
          ∙ sym (paths_second r t b a out_b out_a n d);
    }
