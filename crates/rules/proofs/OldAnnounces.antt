-- Wish 7: an announce whose blob its destination's live path holds. Where the path is unmarked, test 10 drops it if none before does, and no path is written;
-- where it is marked, tests 3, 4, 5 and 9 are left, and test 10 where its emission is not the greatest. Both are shown of every relay.
use Prim.Native.Nat.{ℕ}
use native.Mathlib.Omega.{arith}
use mathlib.Core.Bool.{Bool, true, false, not, false≢true}
use mathlib.Core.List.{List}
use mathlib.Core.Path.{◌≡◌, refl, sym, ap, ◌∙◌}
use lib.Dec.{eqb, leb}
use lib.ListN.{length}
use borrow.Author.Tests.{eqb-true, eqb-false, le-leb, lt-leb}
use Rattle.octets.specs.Index.{◌and◌}
use Rattle.octets.specs.Choice.{◌then◌otherwise◌, ◌or◌}
use Rattle.octets.specs.Listed.{first_of, any_holds}
use Rattle.octets.proofs.Index.{and_both, and_no, and_yes, and_false, and_assoc}
use Rattle.octets.proofs.Choice.{then_true, then_false, or_left, or_right}
use Rattle.octets.proofs.Listed.{all_give}
use Rattle.packet.specs.Header.{of_kind_single, is_announce}
use Rattle.packet.specs.Announce.{emission_of}
use Rattle.packet.specs.Read.{longest_packet}
use Rattle.rules.specs.Relay.{used, Path, Relay}
use Rattle.rules.specs.View.{View, view_at, path_place}
use Rattle.rules.specs.Refusals.{packet_refusal}
use Rattle.rules.specs.Arrival.{Arrival, header, hops, destination, blob}
use Rattle.rules.specs.Blobs.{held, is_among, greatest_emission, store_blob}
use Rattle.rules.specs.Ways.{everywhere, way_on}
use Rattle.rules.specs.Tests.{announce_not_single, form_tests, bad_form, own_announce, too_many_hops, no_way_on, wrong_side, not_signed, revives, of_known, is_replay, known_tests, port_off, too_long_for_port, no_room}
use Rattle.rules.specs.Answers.{verdict_kind, reason_number}
use Rattle.rules.specs.Outgoing.{spread_ports, outgoing, exceeds}
use Rattle.rules.specs.Judging.{Plan, dropped, delivered, follows, early_tests, onward_tests, onward_plan, plan, spread_verdict, way_verdict, verdict}
use Rattle.rules.specs.Writes.{announced_blobs, announced_path, write_drop, write_plan}
use Rattle.rules.specs.Questions.{of_test}
use Rattle.rules.specs.Run.{packet, Reply, answered, perform}
use Rattle.rules.specs.Chatty.{PathsStay}
use Rattle.rules.specs.DeadPaths.{says_accepted}
use Rattle.rules.specs.Reasons.{reaches_form, reaches_way}
use Rattle.rules.specs.OldAnnounces.{OfPacket, FromFresh, LivePath, AsItWas, OldLeavesPath, is_newest, is_let_by, MarkedTakesAgain}
use Rattle.rules.specs.declared.Reason.{Reason}
use Rattle.rules.specs.declared.Reason.TheVariants.{Duplicate}
use Rattle.rules.specs.declared.Verdict.{Verdict}
use Rattle.rules.specs.declared.Verdict.TheVariants.{Drop}
use Rattle.rules.specs.declared.Answer.TheVariants.{Judged}
use Rattle.rules.specs.declared.Tally.{Tally}
use Rattle.rules.proofs.Choices.{either}
use Rattle.rules.proofs.BlobLaws.{among_emission}
use Rattle.octets.proofs.JoinedTests.{holds_for, before, none_for}
use Rattle.rules.proofs.Passed.{passed, names_test, names_test_lem}
use Rattle.rules.proofs.Stamped.{enact_paths}
use Rattle.rules.proofs.Held.{judged_relay, judged_reply}
use Rattle.rules.proofs.ChattyPlan.{reaches, dropped_reached, announce_way}
use Rattle.rules.proofs.Reasons.{early_decides}
use Rattle.rules.proofs.Announced.{shown_after}
use Rattle.rules.proofs.AnnounceTests.{announce_ours, announce_not_here, announce_unknown, announce_untested}

-- Spread or Kept
unfoldable is_accepted : Verdict → Bool
is_accepted verdict = leb 4 (verdict_kind verdict)

-- the same tests in another order
in_order : (f o h n s : Bool) → ((not f and not o and not h) and (n and not s)) ≡ (n and not f and not o and not h and not s)
unfolding ◌and◌
in_order f o h true s = simp and_assoc
in_order f o h false s = and_false (not f and not o and not h)

-- ---- a path is what the table of paths says
view_stays : (clock : ℕ) (r r' : Relay) → PathsStay r r' → (d : List ℕ) → (view_at clock r').path d ≡ (view_at clock r).path d
unfolding view_at path_place
view_stays clock r r' e d = rw e refl

-- ---- an accepted packet
module _ (a : Arrival) (output : List ℕ) (r : Relay) (t : Tally) (taken : eqb (packet_refusal r a (length output)) 0 ≡ true) where
  abbrev seen : View
  seen = view_at a.clock r

  abbrev R : Relay
  R = (perform (packet a output) r t).relay

  abbrev reply : Reply
  reply = (perform (packet a output) r t).reply

  -- ---- where its plan writes no path, no destination's path changes
  left : ((todo : Plan) → plan seen a ≡ todo → (write_plan seen a todo r).paths ≡ r.paths) → (d : List ℕ) (p : Path) → LivePath d p a r → AsItWas d p a R
  left stays d p live =
      let kept : PathsStay r R =
      ap (λ (s : Relay). s.paths) (judged_relay a r t output taken) ∙ enact_paths seen a (plan seen a) r ∙ stays (plan seen a) refl in
      record {
        path = p;
        live = view_stays a.clock r R kept d ∙ live;
        port = refl;
        next_hop_lem = refl;
        hops = refl;
        expiry = refl;
        blobs = refl;
      }

  -- a drop that isn't by test 15 writes none
  drop_stays : (reason : Reason) → of_test 15 (dropped reason) ≡ false → (write_plan seen a (dropped reason) r).paths ≡ r.paths
  unfolding write_plan write_drop of_test
  drop_stays reason other = ap (λ (s : Relay). s.paths) (then_false _ _ other)

  -- ---- "a packet dropped as duplicate"
  duplicate_plan : (room : List ℕ) → reply ≡ answered (Judged (Drop Duplicate)) room → of_test 2 (plan seen a) ≡ true
  unfolding names_test
  duplicate_plan room says =
      let is = judged_reply a r t output taken in
      let says-verdict : verdict seen a (plan seen a) ≡ Drop Duplicate = cc in
      sym (names_test_lem seen a 2 refl (plan seen a)) ∙ ap (names_test 2) says-verdict

  duplicate_stays : of_test 2 (plan seen a) ≡ true → (todo : Plan) → plan seen a ≡ todo → (write_plan seen a todo r).paths ≡ r.paths
  unfolding of_test
  duplicate_stays h (dropped reason) e =
      drop_stays reason (ap (λ (n : ℕ). eqb n 15) (eqb-true (reason_number reason) 2 (sym (ap (of_test 2) e) ∙ h)))
  duplicate_stays h delivered e = absurd (false≢true (sym (ap (of_test 2) e) ∙ h))
  duplicate_stays h (follows w) e = absurd (false≢true (sym (ap (of_test 2) e) ∙ h))

  -- ---- an announce whose live path holds its blob
  module _ (announce : is_announce (header a) ≡ true) (p : Path) (live : seen.path (destination a) ≡ used p)
      (among : is_among (blob a) (held p.blobs) ≡ true) where
    way_is : way_on seen a ≡ everywhere (used p)
    way_is = announce_way seen a announce ∙ ap everywhere live

    -- .. and is unmarked: test 10 holds
    module _ (unmarked : p.notes.marked ≡ false) where
      holds_then : of_known a (is_replay a) (way_on seen a) ≡ true
      unfolding of_known revives
      holds_then = ap (of_known a (is_replay a)) way_is ∙ and_both (ap not (and_no _ unmarked)) among

      -- it stands before test 15
      not_rated : of_test 15 (plan seen a) ≡ false
      unfolding onward_tests known_tests before holds_for of_test ◌then◌otherwise◌
      not_rated = go (of_test 15 (plan seen a)) refl
        where
          go : (b : Bool) → of_test 15 (plan seen a) ≡ b → b ≡ false
          go true e =
              let reached = reaches seen a (dropped_reached seen a e).1 in
              sym holds_then ∙ none_for (of_test 10) (before (of_test 15) (onward_tests seen a (way_on seen a))) reached.onward
          go false e = refl

      held_stays : (todo : Plan) → plan seen a ≡ todo → (write_plan seen a todo r).paths ≡ r.paths
      unfolding write_plan known_tests
      held_stays (dropped reason) e = drop_stays reason (sym (ap (of_test 15) e) ∙ not_rated)
      held_stays delivered e = refl
      held_stays (follows w) e =
          let (way, passes) = passed seen a w e in
          absurd (false≢true (sym passes.known.0 ∙ sym (ap (of_known a (is_replay a)) way) ∙ holds_then))

    -- .. and is marked
    module _ (marked : p.notes.marked ≡ true) where
      abbrev newest : ℕ
      newest = greatest_emission (held p.blobs)

      -- an emission at least the greatest is the greatest, since it is held
      revives_newest : revives a p ≡ is_newest p a
      unfolding revives is_newest
      revives_newest = and_yes _ marked ∙ go (is_newest p a) refl
        where
          go : (b : Bool) → eqb (emission_of (blob a)) newest ≡ b → leb newest (emission_of (blob a)) ≡ b
          go true e = le-leb newest (emission_of (blob a)) (omega (arith, eqb-true (emission_of (blob a)) newest e))
          go false e =
              let most = among_emission (blob a) (held p.blobs) among in
              let other : emission_of (blob a) ≡ newest → ⊥ = eqb-false _ _ e in
              lt-leb newest (emission_of (blob a)) (omega (arith, most, other))

      -- tests 1 to 5: one that isn't of kind single is of bad form
      bad_kind : of_kind_single (header a) ≡ false → bad_form a.bytes ≡ true
      unfolding bad_form form_tests any_holds announce_not_single
      bad_kind e = or_right _ (or_right _ (or_left _ (and_both announce (ap not e))))

      early_is : reaches_way seen a ≡ (not (bad_form a.bytes) and not (own_announce seen a) and not (too_many_hops (hops a)))
      unfolding reaches_way reaches_form ◌and◌
      early_is = go (of_kind_single (header a)) refl
        where
          go : (b : Bool) → of_kind_single (header a) ≡ b
              → reaches_way seen a ≡ (not (bad_form a.bytes) and not (own_announce seen a) and not (too_many_hops (hops a)))
          go true e = rw (announce_ours seen a announce, announce_untested seen a announce p e live marked, announce_not_here seen a announce) refl
          go false e = rw (bad_kind e) (and_false (reaches_form seen a))

      -- tests 6 to 13: below the greatest, test 10 is made, and holds
      onward_is : is_accepted (verdict seen a (onward_plan seen a (everywhere (used p)))) ≡ (is_newest p a and not (not_signed a))
      unfolding onward_plan onward_tests first_of no_way_on wrong_side known_tests of_known port_off too_long_for_port no_room verdict way_verdict
          spread_verdict is_accepted ◌then◌otherwise◌ ◌and◌
      onward_is = go (revives a p) (not_signed a) refl refl ∙ ap (λ (b : Bool). b and not (not_signed a)) revives_newest
        where
          go : (b c : Bool) → revives a p ≡ b → not_signed a ≡ c → is_accepted (verdict seen a (onward_plan seen a (everywhere (used p)))) ≡ (b and not c)
          go b true e f = rw (announce_unknown seen a announce (everywhere (used p)), f) (sym (and_false b))
          go false false e f = rw (announce_unknown seen a announce (everywhere (used p)), f, e, among) refl
          go true false e f =
              rw (announce_unknown seen a announce (everywhere (used p)), f, e, announce)
              (either (λ (y : Verdict). is_accepted y ≡ true) (eqb (spread_ports seen a) 0 or exceeds (outgoing seen a (everywhere (used p))) longest_packet)
              (λ _. refl) (λ _. refl))

      -- all tests that are left
      taken_again : says_accepted reply ≡ (is_newest p a and is_let_by seen a)
      unfolding is_let_by is_accepted early_tests verdict all_give ◌and◌
      taken_again =
          ap says_accepted (judged_reply a r t output taken)
          ∙ early_decides seen a is_accepted refl
          ∙ rw (early_is, way_is, onward_is) (in_order (bad_form a.bytes) (own_announce seen a) (too_many_hops (hops a)) (is_newest p a) (not_signed a))

      -- ---- the path that is then set
      accepted_plan : (todo : Plan) → plan seen a ≡ todo → is_accepted (verdict seen a todo) ≡ true → plan seen a ≡ follows (everywhere (used p))
      unfolding verdict is_accepted
      accepted_plan (dropped reason) e h = absurd (false≢true h)
      accepted_plan delivered e h = absurd (false≢true h)
      accepted_plan (follows w) e h = e ∙ ap follows (sym (passed seen a w e).0 ∙ way_is)

      same_blobs : says_accepted reply ≡ true → (p' : Path) × ((view_at a.clock R).path (destination a) ≡ used p') × (p'.blobs ≡ p.blobs)
      unfolding announced_path announced_blobs store_blob is_accepted
      same_blobs h =
          let todo = accepted_plan (plan seen a) refl (sym (ap says_accepted (judged_reply a r t output taken)) ∙ h) in
          (announced_path seen a (used p), shown_after a output r t taken p live todo, then_true _ _ among)

-- ---- the sentences, of every packet call
pub old_leaves_path : (a : Arrival) (output : List ℕ) (r : Relay) (t : Tally) → OfPacket OldLeavesPath a output r t
old_leaves_path a output r t taken d p live unmarked =
    record {
      duplicate = λ room says. left a output r t taken (duplicate_stays a output r t taken (duplicate_plan a output r t taken room says)) d p live;
      held_announce = λ h.
          left a output r t taken
          (held_stays a output r t taken h.announce p (ap (view_at a.clock r).path h.for_it ∙ live) h.is_held unmarked) d p live;
    }

pub marked_takes_again : (a : Arrival) (output : List ℕ) (r : Relay) (t : Tally) → OfPacket MarkedTakesAgain a output r t
marked_takes_again a output r t taken d p live marked h =
    let here : (view_at a.clock r).path (destination a) ≡ used p = ap (view_at a.clock r).path h.for_it ∙ live in
    record {
      exactly = taken_again a output r t taken h.announce p here h.is_held marked;
      blobs_stay = λ accepted.
          let (p', shown, kept) = same_blobs a output r t taken h.announce p here h.is_held marked accepted in
          (p', ap (view_at a.clock (perform (packet a output) r t).relay).path (sym h.for_it) ∙ shown, kept);
    }

-- ---- behind any calls from fresh
pub old_leaves_path_fresh : FromFresh OldLeavesPath
old_leaves_path_fresh own cs none a output = old_leaves_path a output _ _

pub marked_takes_again_fresh : FromFresh MarkedTakesAgain
marked_takes_again_fresh own cs none a output = marked_takes_again a output _ _
