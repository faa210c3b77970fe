-- Wish 4's theorems on one list of calls. What the first calls led to is saved; others follow, packets among them that are forwarded, dropped and refused;
-- and the file is loaded. Then a packet of an earlier clock, refused until then, is judged, and the saved tally counts on. And a renumbering behind a load.
use Prim.Native.Nat.{ℕ, ◌+◌, ◌%◌, ◌^◌}
use mathlib.Core.Bool.{true}
use mathlib.Core.List.{List, [], ◌∷◌, ◌++◌}
use mathlib.Core.Path.{◌≡◌, refl, ap, ap₂, ◌∙◌}
use native.Mathlib.Omega.{arith}
use Rattle.octets.specs.Bytes.{Bytes}
use Rattle.octets.specs.Part.{patch}
use Rattle.octets.specs.Choice.{◌then◌otherwise◌}
use Rattle.octets.specs.Index.{◌and◌}
use Rattle.octets.proofs.Choice.{eq_same}
use Rattle.packet.specs.Hash.{packet_hash}
use Rattle.rules.specs.Relay.{Relay, fresh}
use Rattle.rules.specs.View.{view_at}
use Rattle.rules.specs.Refusals.{all, table_ok}
use Rattle.rules.specs.Answers.{rename_verdict, rename_answer}
use Rattle.rules.specs.Calls.{new_tally}
use Rattle.rules.specs.Questions.{rename_told}
use Rattle.rules.specs.Saved.{Said, load_refusal}
use Rattle.rules.specs.Run.{EachCall, Call, renumbering, Reply, answered, numbered, saved, of_said, perform, rename_arrival, rename_call, rename_reply, no_call, sets_relay}
use Rattle.rules.specs.declared.Answer.TheVariants.{Refused}
use Rattle.rules.specs.declared.Tally.{Tally}
use Rattle.rules.proofs.Unfolding.{rules}
use Rattle.rules.proofs.Shortcut.{passes, seen_quick, good_plan, good_judge}
use Rattle.rules.proofs.Passed.{of_test}
use Rattle.rules.proofs.History.{TallyFits, number, is_any, is_drop, is_forward}
use Rattle.rules.proofs.Valid.{fresh_ok}
use Rattle.rules.proofs.Scene.{own, blank, data_bytes, receipt_bytes, arrives}
use Rattle.rules.proofs.Outcomes.{forwards, judged_at}
use Rattle.rules.proofs.Sanity.{one_up}
use Rattle.tables.specs.Places.{table_size}
use Rattle.tables.specs.Layout.{bytes_of}
use Rattle.tables.specs.Shape.{is_byte, is_bytes}
use Rattle.tables.proofs.Whole.{ok_bytes, bytes_bytes}
use Rattle.saved.specs.File.{file_of, saved_size}
use Rattle.saved.specs.Load.{load_refusal as load_refusal_on}
use Rattle.saved.specs.Format.{said_by, saving, loading, in_room}
use Rattle.saved.proofs.FormatLaws.{file_bytes, file_said}
use Rattle.demands.specs.Given.{CallBytes, CallsBytes}
use Rattle.demands.specs.Bytes.{replies_on, tally_after_on}
use Rattle.demands.proofs.Shape.{fresh_shaped}
use Rattle.demands.proofs.Demand2.{run_on}
use Rattle.demands.proofs.Demand3.{both_given}
use Rattle.demands.proofs.SavedTables.{tables_in, tally_in, counts_history_since_load}
use Rattle.demands.proofs.InstanceCalls.{room, before, later_by, later, given_before, given_later, Runs, no_call_lem, ◌first◌, ◌then_runs◌, counting, duplicate, said_before, said_later, hosting, received_relay, last_relay, last_tally, receipt_new, all_saved, midway_relay, midway_tally, later_run, before_then, before_run}
use Rattle.demands.proofs.Instance2.{sixteen, Held, held, Goes, goes}
use Rattle.demands.proofs.Instance3.{end, one_ports, one_up_ok, put_in}

-- ---- the file: of what the first calls led to
midway : Held midway_relay
midway = held given_before before_run

fits : TallyFits midway_tally
fits = omega arith

abbrev pub file : List ℕ
file = file_of (midway_relay, midway_tally)

bytes : Bytes file
bytes = file_bytes midway_relay midway.shape midway.ok midway_tally fits

said : said_by file ≡ record { refusal = 0; relay = midway_relay; tally = midway_tally }
said = file_said midway_relay midway.shape midway.ok midway_tally fits

-- ---- the calls
-- the data once more, at its clock
abbrev again : List Call
again = arrives data_bytes 2000 2 ∷ []

abbrev pub until : List Call
until = before ++ (saving room ∷ (later ++ again))

abbrev pub since : List Call
since = arrives data_bytes 2000 2 ∷ arrives (receipt_bytes 5) 2500 1 ∷ []

given_until : CallsBytes until
unfolding EachCall CallBytes is_bytes is_byte table_ok all ◌and◌
given_until = both_given before (saving room ∷ (later ++ again)) given_before (refl, both_given later again (given_later 1 5) (refl, tt))

given_since : CallsBytes since
unfolding EachCall CallBytes is_bytes is_byte table_ok all ◌and◌
given_since = (refl, (refl, tt))

pub given_both : CallsBytes (until ++ (loading file ∷ since))
unfolding EachCall CallBytes
given_both = both_given until (loading file ∷ since) given_until ((refl, bytes), given_since)

-- ---- call by call
-- before the last clock: 5
late_refused : perform (arrives data_bytes 2000 2) end last_tally ≡ record { reply = answered (Refused 5) blank; relay = end; tally = last_tally }
unfolding rules
late_refused = refl

pub loaded_at : (r : Relay) (t : Tally) → perform (loading file) r t ≡ record { reply = numbered 0; relay = midway_relay; tally = midway_tally }
unfolding perform of_said load_refusal ◌then◌otherwise◌
loaded_at r t = ap (λ (s : Said). of_said s r t) said ∙ rw midway.ok

data_seen : (view_at 2000 midway_relay).remembered (packet_hash data_bytes) ≡ true
unfolding rules passes
data_seen =
    seen_quick 2000 midway_relay (packet_hash data_bytes) refl
    ∙ rw (eq_same (packet_hash data_bytes) (packet_hash data_bytes) refl)

data_dropped : perform (arrives data_bytes 2000 2) midway_relay midway_tally
    ≡ record { reply = duplicate; relay = midway_relay; tally = counting 2 1 1 }
unfolding rules good_plan good_judge of_test
data_dropped = judged_at data_bytes 2000 midway_relay midway_tally data_seen refl 2 refl

receipt_home : perform (arrives (receipt_bytes 5) 2500 1) midway_relay (counting 2 1 1)
    ≡ record { reply = forwards (receipt_bytes 6) 2; relay = hosting received_relay; tally = counting 2 2 1 }
unfolding rules good_plan good_judge of_test
receipt_home = judged_at (receipt_bytes 5) 2500 midway_relay (counting 2 1 1) receipt_new refl 1 refl

-- ---- all of them
abbrev pub said_until : List Reply
said_until = said_before ++ (saved midway_relay midway_tally room ∷ (said_later 2 1 end ++ (answered (Refused 5) blank ∷ [])))

abbrev pub said_since : List Reply
said_since = duplicate ∷ forwards (receipt_bytes 6) 2 ∷ []

since_run : Runs since midway_relay midway_tally said_since (hosting received_relay) (counting 2 2 1)
since_run = data_dropped first receipt_home first no_call_lem

both_run : Runs (until ++ (loading file ∷ since)) (fresh own) new_tally (said_until ++ (numbered 0 ∷ said_since)) (hosting received_relay) (counting 2 2 1)
both_run =
    before_then (all_saved midway_relay midway_tally midway.ok first (later_run then_runs
    (late_refused first loaded_at end last_tally first since_run)))

-- ---- demand 2: follows_the_rules_fresh, on the bytes
pub both : Goes (until ++ (loading file ∷ since)) (said_until ++ (numbered 0 ∷ said_since)) (hosting received_relay) (counting 2 2 1)
both = goes given_both both_run

-- the room after the save
pub stored : in_room (saved midway_relay midway_tally room) ≡ record { answer = record { refusal = 0; length = saved_size }; room = patch room 0 file }
unfolding in_room
stored = refl

-- ---- counts_history_since_load: three were counted when it was saved, and two since it was loaded
taken : load_refusal_on file table_size ≡ 0
unfolding said_by
taken = ap (λ (s : Said). s.refusal) said

since_said : replies_on since (tables_in file) (tally_in file) ≡ said_since
unfolding said_by
since_said =
    ap (λ (s : Said). replies_on since (bytes_of s.relay) s.tally) said
    ∙ (run_on since midway_relay midway_tally given_since midway.ok midway.shape).answers
    ∙ since_run.answers

tally_held : tally_in file ≡ midway_tally
unfolding said_by
tally_held = ap (λ (s : Said). s.tally) said

abbrev last : Tally
last = tally_after_on (until ++ (loading file ∷ since)) (bytes_of (fresh own)) new_tally

pub counted_on : (last.total ≡ 5) × (last.dropped ≡ 2) × (last.forwarded ≡ 2)
unfolding number no_call sets_relay ◌and◌ ◌then◌otherwise◌
counted_on =
    let s = fresh_shaped own sixteen in
    let o = fresh_ok own in
    let history = counts_history_since_load file bytes taken until since given_until given_since (bytes_of (fresh own)) new_tally
    (bytes_bytes (fresh own) s o) (ok_bytes (fresh own) s o) refl in (
      history.total ∙ ap₂ (λ (t : Tally) (x : List Reply). (t.total + number is_any x) % 2 ^ 32) tally_held since_said,
      history.dropped ∙ ap₂ (λ (t : Tally) (x : List Reply). (t.dropped + number is_drop x) % 2 ^ 32) tally_held since_said,
      history.forwarded ∙ ap₂ (λ (t : Tally) (x : List Reply). (t.forwarded + number is_forward x) % 2 ^ 32) tally_held since_said,
    )

-- ---- demand 3: forgets_nothing_fresh, with a load before the renumbering, and behind it a save, which is of the renamed tables
abbrev pub early : List Call
early = before ++ (loading file ∷ [])

given_early : CallsBytes early
unfolding EachCall CallBytes
given_early = both_given before (loading file ∷ []) given_before ((refl, bytes), tt)

early_run : Runs (early ++ later) (fresh own) new_tally ((said_before ++ (numbered 0 ∷ [])) ++ said_later 2 1 end) end last_tally
early_run = before_then (loaded_at midway_relay midway_tally first later_run)

pub behind_a_load : Goes (early ++ (renumbering one_up ∷ later_by 2 6))
    ((said_before ++ (numbered 0 ∷ [])) ++ (numbered 0 ∷ said_later 3 2 (last_relay one_ports 2))) (last_relay one_ports 2) last_tally
unfolding rules rename_call rename_arrival rename_reply rename_answer rename_verdict rename_told
behind_a_load = put_in early (said_before ++ (numbered 0 ∷ [])) given_early refl early_run one_up one_up_ok refl refl refl
