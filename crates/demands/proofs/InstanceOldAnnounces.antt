-- Wish 7's theorems on three lists of calls from fresh, on the bytes. An announce comes again by another port and with fewer hops; behind the demands' own list
-- data comes again, and its receipt by either port; and a destination announces three times, its path is marked, and its announces come again. Each list
-- begins with a renumbering and has refused calls in it, the first and the last a load.
use Prim.Native.Nat.{ℕ}
use mathlib.Core.Bool.{Bool, true, false, not}
use mathlib.Core.List.{List, [], ◌∷◌, ◌++◌}
use mathlib.Core.Path.{◌≡◌, refl, sym, ap, subst, ◌∙◌}
use lib.Dec.{lit≤}
use lib.ListN.{length}
use Rattle.octets.specs.Index.{◌and◌}
use Rattle.octets.proofs.Index.{and_both, and_no, and_false}
use Rattle.octets.proofs.Choice.{eq_same}
use Rattle.octets.proofs.Bytes.{nil_bytes}
use Rattle.packet.specs.Hash.{packet_hash}
use Rattle.notes.specs.Notes.{no_notes}
use Rattle.rules.specs.Relay.{make_path, make_rate_entry, used, Path, Return, Relay, fresh}
use Rattle.rules.specs.View.{View, view_at}
use Rattle.rules.specs.Rate.{starts_at}
use Rattle.rules.specs.Refusals.{all, table_ok, packet_refusal}
use Rattle.rules.specs.Arrival.{Arrival, hops, hash, destination as destination_of}
use Rattle.rules.specs.Ways.{by_return}
use Rattle.rules.specs.Tests.{not_ours, tested_as_duplicate, duplicate, bad_form, own_announce, delivered_here, too_many_hops, not_signed, port_off, too_long_for_port}
use Rattle.rules.specs.Calls.{new_tally, rule_of}
use Rattle.rules.specs.Questions.{came_with}
use Rattle.rules.specs.Run.{EachCall, Call, packet, port_setting, rate_setting, renumbering, marking, Reply, answered, numbered, Outcome, perform, none_loads, no_call, sets_relay}
use Rattle.rules.specs.DeadPaths.{says_accepted}
use Rattle.rules.specs.Reasons.{reaches_form, reaches_way, is_ordinary_proof}
use Rattle.rules.specs.OldAnnounces.{Sentence, HeldAnnounce, AsItWas, Leaves, OldLeavesPath, says_forwarded, goes_back, Returns, ProofReturns, is_newest, is_let_by, TakenAgain, MarkedTakesAgain}
use Rattle.rules.specs.declared.Reason.TheVariants.{Duplicate}
use Rattle.rules.specs.declared.Verdict.TheVariants.{Drop, Forward}
use Rattle.rules.specs.declared.Answer.TheVariants.{Judged}
use Rattle.rules.specs.declared.Tally.{Tally}
use Rattle.rules.proofs.Noted.{with_path_mark}
use Rattle.rules.proofs.Unfolding.{lists, layout, rules}
use Rattle.rules.proofs.Shortcut.{passes, seen_quick, good_plan, good_judge}
use Rattle.rules.proofs.Passed.{of_test}
use Rattle.rules.proofs.Slots.{used_same}
use Rattle.rules.proofs.Scene.{own, blank, emission, announce_body, destination, announce_bytes, data_bytes, data_key, receipt_bytes, arrival, arrives}
use Rattle.rules.proofs.Outcomes.{spreads, tally_of, relay_of as relay_with, remembers, known_path, return_of, prepared_relay, judged_at, announce_form}
use Rattle.rules.proofs.Sanity.{one_up}
use Rattle.rules.proofs.ChattyScene.{sent, hears, spread_of, form, counting, path_of, heard_relay, port_one, port_two, mild, thrice, all_without}
use Rattle.tables.specs.Layout.{relay_of}
use Rattle.tables.specs.Shape.{is_byte, is_bytes}
use Rattle.tables.proofs.Whole.{back}
use Rattle.saved.specs.Format.{said_by, loading}
use Rattle.saved.proofs.Example.{computing}
use Rattle.demands.specs.Given.{CallBytes, CallsBytes}
use Rattle.demands.specs.Bytes.{OutcomeOn, perform_on, tables_after_on, tally_after_on}
use Rattle.demands.specs.Refusals.{refusal, refusal_on}
use Rattle.demands.specs.OldAnnounces.{FromFreshOn}
use Rattle.demands.proofs.Demand2.{refusal_bytes, reply_bytes}
use Rattle.demands.proofs.Demand3.{both_given}
use Rattle.demands.proofs.OldAnnounces.{old_leaves_path_fresh, proof_returns_fresh, marked_takes_again_fresh}
use Rattle.demands.proofs.InstanceCalls.{before, given_before, before_then, before_run, midway_relay, midway_tally, receipt_new, Runs, no_call_lem, ◌first◌}
use Rattle.demands.proofs.Instance2.{buffer, size, sixteen, start, Goes, goes, Held, held}

-- ---- a packet behind a list of calls from fresh
abbrev behind : List Call → Arrival → OutcomeOn
behind cs a = perform_on (packet a blank) (tables_after_on cs start new_tally) (tally_after_on cs start new_tally)

-- by the rules the list leads to the relay r, which doesn't refuse the packet: so the sentence holds of it
module _ {cs : List Call} {said : List Reply} {r : Relay} {t : Tally} (given : CallsBytes cs) (run : Runs cs (fresh own) new_tally said r t)
    (a : Arrival) (b : CallBytes (packet a blank)) where
  holds_behind : (says : Sentence) → FromFreshOn says → none_loads cs ≡ true → packet_refusal r a (length blank) ≡ 0
      → says a r (behind cs a).reply (relay_of (behind cs a).tables)
  unfolding refusal
  holds_behind says theorem none accepted =
      let g : Goes cs said r t = goes given run in
      let h : Held r = held given run in
      let zero = ap (refusal_on (packet a blank)) g.tables ∙ refusal_bytes r h.shape h.ok (packet a blank) b ∙ accepted in
      subst (λ (x : Relay). says a x (behind cs a).reply (relay_of (behind cs a).tables)) (ap relay_of g.tables ∙ back r h.shape h.ok)
      (theorem buffer own size sixteen cs given none a blank b zero)

  reply_behind : (behind cs a).reply ≡ (perform (packet a blank) r t).reply
  reply_behind =
      let g : Goes cs said r t = goes given run in
      let h : Held r = held given run in
      rw (g.tables, g.tally) (reply_bytes r h.shape h.ok t (packet a blank) b)

fresh_moved : perform (renumbering one_up) (fresh own) new_tally ≡ record { reply = numbered 0; relay = fresh own; tally = new_tally }
unfolding rules
fresh_moved = refl

-- ---- 1. the announce comes in by port 1, roaming, with one hop
abbrev far_bytes : List ℕ
far_bytes = 0x21 ∷ 1 ∷ (destination ++ (0x00 ∷ announce_body emission))

abbrev heard : List Call
heard = renumbering one_up ∷ port_setting 1 true 2 500 ∷ port_setting 2 true 0 500 ∷ arrives far_bytes 1000 1 ∷ loading [] ∷ []

heard_given : CallsBytes heard
unfolding EachCall CallBytes rule_of is_bytes is_byte table_ok all ◌and◌
heard_given = (refl, (refl, (refl, (refl, ((refl, nil_bytes), tt)))))

none_heard : none_loads heard ≡ true
unfolding rules no_call sets_relay said_by computing
none_heard = refl

abbrev far_path : Path
far_path = make_path destination 1 1 destination 22600 (starts_at 1000) no_notes known_path.blobs

abbrev far_relay : Relay
far_relay = relay_with 1000 (used far_path ∷ []) [] [] (remembers far_bytes 1300 ∷ [])

far_new : (view_at 1000 prepared_relay).remembered (packet_hash far_bytes) ≡ false
unfolding rules passes
far_new = seen_quick 1000 prepared_relay (packet_hash far_bytes) refl

-- the form doesn't go by the hops
far_form : bad_form far_bytes ≡ false
unfolding rules
far_form = announce_form

abbrev far_spread : Reply
far_spread = spreads (0x71 ∷ 2 ∷ (own ++ (destination ++ (0x00 ∷ announce_body emission)))) 2

far_heard : perform (arrives far_bytes 1000 1) prepared_relay new_tally ≡ record { reply = far_spread; relay = far_relay; tally = tally_of 1 0 }
unfolding rules good_plan good_judge of_test
far_heard = judged_at far_bytes 1000 prepared_relay new_tally far_new far_form 1 refl

none_heard_loaded : perform (loading []) far_relay (tally_of 1 0) ≡ record { reply = numbered 20; relay = far_relay; tally = tally_of 1 0 }
unfolding rules said_by computing
none_heard_loaded = refl

heard_run : Runs heard (fresh own) new_tally (numbered 0 ∷ numbered 0 ∷ numbered 0 ∷ far_spread ∷ numbered 20 ∷ []) far_relay (tally_of 1 0)
heard_run = fresh_moved first port_one first port_two first far_heard first none_heard_loaded first no_call_lem

-- it comes again by port 2, boundary, with no hop, when its hash is forgotten: nothing but test 10 is in its way
abbrev announce_again : Arrival
announce_again = arrival announce_bytes 2100 2

announce_given : CallBytes (packet announce_again blank)
unfolding CallBytes is_bytes is_byte table_ok all ◌and◌
announce_given = refl

announce_leaves : Leaves destination far_path announce_again (behind heard announce_again).reply (relay_of (behind heard announce_again).tables)
unfolding rules
announce_leaves =
    holds_behind heard_given heard_run announce_again announce_given OldLeavesPath old_leaves_path_fresh none_heard refl destination far_path refl refl

is_held : HeldAnnounce destination far_path announce_again
unfolding rules
is_held = record { announce = refl; for_it = refl; has_blob = lit≤ tt; is_held = refl }

pub announce_left : AsItWas destination far_path announce_again (relay_of (behind heard announce_again).tables)
announce_left = announce_leaves.held_announce is_held

-- the path is still by port 1, with one hop, and expires as it did
pub path_stays : (p : Path) × ((view_at 2100 (relay_of (behind heard announce_again).tables)).path destination ≡ used p) × (p.port ≡ 1) × (p.hops ≡ 1)
    × (p.expiry ≡ 22600)
path_stays = (announce_left.path, announce_left.live, announce_left.port, announce_left.hops, announce_left.expiry)

-- behind the demands' list, data comes again
none_before : none_loads before ≡ true
unfolding no_call sets_relay ◌and◌
none_before = refl

abbrev data_again : Arrival
data_again = arrival data_bytes 2100 2

data_given : CallBytes (packet data_again blank)
unfolding CallBytes is_bytes is_byte table_ok all ◌and◌
data_given = refl

-- it is dropped as a duplicate
data_seen : (view_at 2100 midway_relay).remembered (packet_hash data_bytes) ≡ true
unfolding rules passes
data_seen = seen_quick 2100 midway_relay (packet_hash data_bytes) refl ∙ rw (eq_same (packet_hash data_bytes) (packet_hash data_bytes) refl)

pub data_dropped : (behind before data_again).reply ≡ answered (Judged (Drop Duplicate)) blank
unfolding rules good_plan good_judge of_test
data_dropped =
    reply_behind given_before before_run data_again data_given
    ∙ ap (λ (o : Outcome). o.reply) (judged_at data_bytes 2100 midway_relay midway_tally data_seen refl 2 refl)

pub data_left : AsItWas destination known_path data_again (relay_of (behind before data_again).tables)
unfolding rules
data_left =
    (holds_behind given_before before_run data_again data_given OldLeavesPath old_leaves_path_fresh none_before refl destination known_path refl refl
    ).duplicate blank data_dropped

-- ---- 2. the data came in by port 2 and left by port 1, and its receipt comes in by a port
abbrev receipt : ℕ → Arrival
receipt port = arrival (receipt_bytes 5) 2500 port

receipt_given : (port : ℕ) → CallBytes (packet (receipt port) blank)
unfolding CallBytes is_bytes is_byte table_ok all ◌and◌
receipt_given port = refl

returned_by_one : Returns (receipt 1) midway_relay (behind before (receipt 1)).reply
unfolding rules is_ordinary_proof
returned_by_one = holds_behind given_before before_run (receipt 1) (receipt_given 1) ProofReturns proof_returns_fresh none_before refl refl

returned_by_two : Returns (receipt 2) midway_relay (behind before (receipt 2)).reply
unfolding rules is_ordinary_proof
returned_by_two = holds_behind given_before before_run (receipt 2) (receipt_given 2) ProofReturns proof_returns_fresh none_before refl refl

record_live : (view_at 2500 midway_relay).return data_key ≡ used (return_of data_key)
unfolding rules
record_live = refl

record_there : (port : ℕ) → (view_at 2500 midway_relay).return (destination_of (receipt port)) ≡ used (return_of data_key)
unfolding lists layout
record_there port = record_live

-- a packet whose hash is not remembered gets past tests 1 to 5 where the others let it by
reaches_new : (v : View) (a : Arrival) → v.remembered (hash a) ≡ false → not_ours v a ≡ false → bad_form a.bytes ≡ false → own_announce v a ≡ false
    → delivered_here v a ≡ false → too_many_hops (hops a) ≡ false → reaches_way v a ≡ true
unfolding reaches_way reaches_form duplicate
reaches_new v a new ours formed not_own_lem not_here few =
    and_both (and_both (ap not ours) (ap not (ap (tested_as_duplicate v a and◌) new ∙ and_false _)))
    (and_both (ap not formed) (and_both (ap not not_own_lem) (and_both (ap not not_here) (ap not few))))

receipt_reaches : reaches_way (view_at 2500 midway_relay) (receipt 1) ≡ true
unfolding rules
receipt_reaches = reaches_new (view_at 2500 midway_relay) (receipt 1) receipt_new refl refl refl refl refl

port_two_on : port_off (view_at 2500 midway_relay) (receipt 1) (by_return (return_of data_key)) ≡ false
unfolding rules
port_two_on = refl

port_two_carries : too_long_for_port (view_at 2500 midway_relay) (receipt 1) (by_return (return_of data_key)) ≡ false
unfolding rules
port_two_carries = refl

pub receipt_home : says_forwarded (behind before (receipt 1)).reply ≡ true
unfolding goes_back
receipt_home =
    returned_by_one.exactly
    ∙ ap (goes_back (view_at 2500 midway_relay) (receipt 1)) (record_there 1)
    ∙ and_both refl (and_both receipt_reaches (and_both (ap not port_two_on) (ap not port_two_carries)))

-- wish 11: where port 2 has come to carry a byte less than the receipt has, it is not forwarded
abbrev narrowed : List Call
narrowed = before ++ (port_setting 2 true 0 82 ∷ [])

abbrev narrow_relay : Relay
narrow_relay = (perform (port_setting 2 true 0 82) midway_relay midway_tally).relay

narrow_set : perform (port_setting 2 true 0 82) midway_relay midway_tally ≡ record { reply = numbered 0; relay = narrow_relay; tally = midway_tally }
unfolding rules
narrow_set = refl

narrow_given : CallsBytes narrowed
unfolding EachCall CallBytes rule_of all
narrow_given = both_given before (port_setting 2 true 0 82 ∷ []) given_before (refl, tt)

returned_narrow : Returns (receipt 1) narrow_relay (behind narrowed (receipt 1)).reply
unfolding rules is_ordinary_proof no_call sets_relay
returned_narrow =
    holds_behind narrow_given (before_then (narrow_set first no_call_lem)) (receipt 1) (receipt_given 1) ProofReturns proof_returns_fresh refl refl refl

narrow_record : (view_at 2500 narrow_relay).return (destination_of (receipt 1)) ≡ used (return_of data_key)
unfolding rules
narrow_record = refl

-- all else lets it by
still_reaches : reaches_way (view_at 2500 narrow_relay) (receipt 1) ≡ true
unfolding rules
still_reaches = reaches_new (view_at 2500 narrow_relay) (receipt 1) receipt_new refl refl refl refl refl

pub receipt_too_long : says_forwarded (behind narrowed (receipt 1)).reply ≡ false
unfolding rules goes_back
receipt_too_long =
    returned_narrow.exactly
    ∙ ap (goes_back (view_at 2500 narrow_relay) (receipt 1)) narrow_record
    ∙ ap (λ (b : Bool). true and b and false) still_reaches

-- by the port where the data came in, and no other
pub by_port_two : (port n : ℕ) (output : List ℕ) → (behind before (receipt 1)).reply ≡ answered (Judged (Forward port n)) output → port ≡ 2
by_port_two port n output says =
    let (t, there, is) = returned_by_one.only_by port n output says in
    is ∙ ap (λ (x : Return). x.arrival) (used_same (sym there ∙ record_there 1))

-- one that comes in by port 2 is not forwarded
pub receipt_not_home : says_forwarded (behind before (receipt 2)).reply ≡ false
unfolding goes_back
receipt_not_home = returned_by_two.exactly ∙ ap (goes_back (view_at 2500 midway_relay) (receipt 2)) (record_there 2) ∙ and_no _ refl

-- ---- 3. three announces, by port 1; then the path is marked. A mark before the last clock is refused, and so is a load of no file
abbrev marked : List Call
marked =
    renumbering one_up
    ∷ port_setting 1 true 2 500
    ∷ port_setting 2 true 0 500
    ∷ rate_setting 0 0 600
    ∷ rate_setting 86401 0 0
    ∷ hears 1 1000
    ∷ hears 2 1300
    ∷ hears 3 1600
    ∷ marking destination 1800
    ∷ marking destination 1799
    ∷ loading []
    ∷ []

marked_given : CallsBytes marked
unfolding EachCall CallBytes rule_of is_bytes is_byte table_ok all ◌and◌
marked_given = (refl, (refl, (refl, (refl, (refl, (refl, (refl, (refl, (refl, (refl, ((refl, nil_bytes), tt)))))))))))

none_marked : none_loads marked ≡ true
unfolding rules no_call sets_relay said_by computing
none_marked = refl

abbrev marked_path : Path
marked_path = with_path_mark (path_of 23200 (make_rate_entry 1600 0 0) (1 ∷ 2 ∷ 3 ∷ []))

abbrev marked_relay : Relay
marked_relay = heard_relay (mild 0) 1800 marked_path (remembers (sent 1) 1300 ∷ remembers (sent 2) 1600 ∷ remembers (sent 3) 1900 ∷ [])

path_marked : perform (marking destination 1800) (thrice 0) (counting 0 3) ≡ record { reply = numbered 0; relay = marked_relay; tally = counting 0 3 }
unfolding rules
path_marked = refl

mark_early : perform (marking destination 1799) marked_relay (counting 0 3) ≡ record { reply = numbered 5; relay = marked_relay; tally = counting 0 3 }
unfolding rules
mark_early = refl

none_loaded : perform (loading []) marked_relay (counting 0 3) ≡ record { reply = numbered 20; relay = marked_relay; tally = counting 0 3 }
unfolding rules said_by computing
none_loaded = refl

abbrev said_marked : List Reply
said_marked =
    numbered 0 ∷ numbered 0 ∷ numbered 0 ∷ numbered 0 ∷ numbered 9 ∷ spread_of 1 ∷ spread_of 2 ∷ spread_of 3 ∷ numbered 0 ∷ numbered 5 ∷ numbered 20 ∷ []

marked_run : Runs marked (fresh own) new_tally said_marked marked_relay (counting 0 3)
marked_run =
    fresh_moved first port_one first port_two first all_without.set.accepted first all_without.set.refused first all_without.one first all_without.two
    first all_without.three first path_marked first mark_early first none_loaded first no_call_lem

-- an announce comes again by port 2, with this word
abbrev again : ℕ → Bool → Arrival
again k word = came_with (sent k) 2 1850 word

marked_live : (view_at 1850 marked_relay).path destination ≡ used marked_path
unfolding rules
marked_live = refl

again_of : (k : ℕ) (word : Bool) → CallBytes (packet (again k word) blank) → packet_refusal marked_relay (again k word) (length blank) ≡ 0
    → HeldAnnounce destination marked_path (again k word)
    → TakenAgain destination marked_path (again k word) marked_relay (behind marked (again k word)).reply (relay_of (behind marked (again k word)).tables)
again_of k word given accepted h =
    holds_behind marked_given marked_run (again k word) given MarkedTakesAgain marked_takes_again_fresh none_marked accepted destination marked_path marked_live
    refl h

third_given : (word : Bool) → CallBytes (packet (again 3 word) blank)
unfolding CallBytes is_bytes is_byte table_ok all ◌and◌
third_given word = refl

first_given : CallBytes (packet (again 1 true) blank)
unfolding CallBytes is_bytes is_byte table_ok all ◌and◌
first_given = refl

third_of : (word : Bool)
    → TakenAgain destination marked_path (again 3 word) marked_relay (behind marked (again 3 word)).reply (relay_of (behind marked (again 3 word)).tables)
unfolding rules
third_of word = again_of 3 word (third_given word) refl (record { announce = refl; for_it = refl; has_blob = lit≤ tt; is_held = refl })

first_of : TakenAgain destination marked_path (again 1 true) marked_relay (behind marked (again 1 true)).reply (relay_of (behind marked (again 1 true)).tables)
unfolding rules
first_of = again_of 1 true first_given refl (record { announce = refl; for_it = refl; has_blob = lit≤ tt; is_held = refl })

-- tests 3, 4, 5 and 9 let one by, or 9 does not
let_by : (v : View) (a : Arrival) → bad_form a.bytes ≡ false → own_announce v a ≡ false → too_many_hops (hops a) ≡ false → not_signed a ≡ false
    → is_let_by v a ≡ true
unfolding is_let_by
let_by v a formed not_own_lem few signed = and_both (ap not formed) (and_both (ap not not_own_lem) (and_both (ap not few) (ap not signed)))

not_let_by : (v : View) (a : Arrival) → not_signed a ≡ true → is_let_by v a ≡ false
unfolding is_let_by
not_let_by v a unsigned = rw unsigned (simp and_false)

-- the third is the newest, and is taken although its hash is live
third_newest : (word : Bool) → is_newest marked_path (again 3 word) ≡ true
unfolding rules is_newest
third_newest word = refl

third_let_by : is_let_by (view_at 1850 marked_relay) (again 3 true) ≡ true
unfolding rules
third_let_by = let_by (view_at 1850 marked_relay) (again 3 true) (form 3) refl refl refl

pub newest_taken : says_accepted (behind marked (again 3 true)).reply ≡ true
newest_taken = (third_of true).exactly ∙ and_both (third_newest true) third_let_by

pub blobs_stayed : (p : Path) × ((view_at 1850 (relay_of (behind marked (again 3 true)).tables)).path destination ≡ used p) × (p.blobs ≡ marked_path.blobs)
blobs_stayed = (third_of true).blobs_stay newest_taken

-- not with the word no, and the first, which is older, not at all
third_unsigned : not_signed (again 3 false) ≡ true
unfolding rules
third_unsigned = refl

pub unsigned_not_taken : says_accepted (behind marked (again 3 false)).reply ≡ false
unsigned_not_taken =
    (third_of false).exactly
    ∙ ap (is_newest marked_path (again 3 false) and◌) (not_let_by (view_at 1850 marked_relay) (again 3 false) third_unsigned)
    ∙ and_false _

first_older : is_newest marked_path (again 1 true) ≡ false
unfolding rules is_newest
first_older = refl

pub older_not_taken : says_accepted (behind marked (again 1 true)).reply ≡ false
older_not_taken = first_of.exactly ∙ and_no _ first_older
