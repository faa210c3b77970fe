-- The theorems on a recording: a packet that is refused, an announce, the same once more, which drops, and data that is carried.
use Prim.Native.Nat.{ℕ, zero, suc, ◌<◌}
use native.Mathlib.Omega.{arith}
use mathlib.Core.Bool.{Bool, true, false}
use mathlib.Core.List.{List, [], ◌∷◌, map}
use mathlib.Core.Path.{◌≡◌, refl, sym, ap, subst, ◌∙◌}
use lib.Dec.{eqb, lit<}
use lib.ListN.{length, get_or, replicate}
use Rattle.octets.specs.Bytes.{Bytes}
use Rattle.octets.specs.Index.{◌and◌}
use Rattle.octets.specs.Choice.{◌then◌otherwise◌, ◌or◌}
use Rattle.octets.specs.Part.{joined}
use Rattle.packet.specs.Write.{least_output}
use Rattle.rules.specs.Relay.{Relay}
use Rattle.rules.specs.Answers.{tells_value, in_set, image_set, rename_verdict, rename_answer}
use Rattle.rules.specs.Arrival.{Arrival}
use Rattle.rules.specs.Refusals.{all, table_ok, packet_refusal}
use Rattle.rules.specs.Calls.{new_tally, judged, judge, packet_call}
use Rattle.rules.specs.Run.{Call, packet, Reply, answered, Outcome, of_judgement, perform, replies, relay_after, tally_after}
use Rattle.rules.specs.declared.Reason.TheVariants.{Duplicate}
use Rattle.rules.specs.declared.Verdict.TheVariants.{Drop, Forward, Spread}
use Rattle.rules.specs.declared.Answer.{Answer}
use Rattle.rules.specs.declared.Answer.TheVariants.{Refused, Judged}
use Rattle.rules.specs.declared.Tally.{Tally}
use Rattle.rules.proofs.Unfolding.{rules}
use Rattle.rules.proofs.Scene.{blank, announce_bytes, data_bytes, data_key, arrives}
use Rattle.rules.proofs.Outcomes.{prepared_relay, carried_relay}
use Rattle.rules.proofs.Sanity.{one_up}
use Rattle.tables.specs.Layout.{relay_of, bytes_of, well_formed}
use Rattle.tables.specs.Shape.{is_byte, is_bytes, shaped}
use Rattle.tables.proofs.All.{is_each}
use Rattle.tables.proofs.Whole.{back, ok_bytes, bytes_bytes}
use Rattle.recording.specs.Format.{Entry, file_of, RecordableEntry, no_entry, Recordable}
use Rattle.recording.specs.Reader.{file_refusal, entry_of}
use Rattle.recording.specs.Writer.{bodies_of}
use Rattle.recording.proofs.ReadLaws.{entries_length, entries_at}
use Rattle.recording.proofs.RoundTrip.{file_size, file_taken, file_entries, file_bytes}
use Rattle.replaying.specs.Lines.{ports_below, test_word, reason_words, verdict_words, answer_words, answer_line, lines_from}
use Rattle.replaying.specs.Promise.{replay_on, steps_on}
use Rattle.replaying.proofs.Replay.{replay_lines}
use Rattle.text.specs.Numerals.{digit, numeral_within, numeral}
use Rattle.text.specs.Words.{spaced, words_line}
use Rattle.demands.specs.Given.{CallBytes}
use Rattle.demands.specs.Bytes.{perform_on}
use Rattle.demands.specs.Refusals.{refusal, refusal_on, refusing}
use Rattle.demands.specs.Replays.{call_of, calls_of, answer_in, renamed_file}
use Rattle.demands.proofs.Demand1.{RefusesExactly}
use Rattle.demands.proofs.Demand3.{renamed_tables}
use Rattle.demands.proofs.Replays.{replay_refuses_exactly, replay_follows_the_rules, replay_of_no_tables, replay_forgets_nothing}
use Rattle.demands.proofs.InstanceCalls.{counting, hosting, announce_spread, announce_dropped, data_carried}
use Rattle.demands.proofs.Instance1.{row_of}
use Rattle.demands.proofs.Instance2.{Held}
use Rattle.demands.proofs.Instance3.{one_up_ok}

-- ---- a packet call with another output of the same length: answer, relay and tally are the same
module _ (a : Arrival) (r : Relay) (t : Tally) (o p : List ℕ) (e : length o ≡ length p) where
  abbrev SameBut : Outcome → Outcome → Type 0
  SameBut x y = (answer_in x.reply ≡ answer_in y.reply) × (x.relay ≡ y.relay) × (x.tally ≡ y.tally)

  other_output : SameBut (perform (packet a o) r t) (perform (packet a p) r t)
  unfolding perform of_judgement packet_call judge judged answer_in ◌then◌otherwise◌
  other_output = rw e (go (eqb (packet_refusal r a (length p)) 0) refl)
    where
      go : (v : Bool) → eqb (packet_refusal r a (length p)) 0 ≡ v
          → SameBut
          (of_judgement (v then judge a r t o otherwise record { answer = Refused (packet_refusal r a (length p)); relay = r; tally = t; output = o }))
          (of_judgement (v then judge a r t p otherwise record { answer = Refused (packet_refusal r a (length p)); relay = r; tally = t; output = p }))
      go true _ = (refl, refl, refl)
      go false _ = (refl, refl, refl)

-- ---- the recording
abbrev recorded : List ℕ → ℕ → ℕ → Entry
recorded bytes clock port = record { clock = clock; port = port; word = 1; body = bytes }

-- by no port of the sixteen: 4; the announce; once more: drop 2; data for it
abbrev pub entries : List Entry
entries = recorded data_bytes 900 77 ∷ recorded announce_bytes 1000 1 ∷ recorded announce_bytes 1000 1 ∷ recorded data_bytes 2000 2 ∷ []

abbrev pub file : List ℕ
file = file_of entries

data_bytes_lem : Bytes data_bytes
unfolding is_bytes is_byte table_ok all ◌and◌
data_bytes_lem = is_each 55 data_bytes refl

announce_bytes_lem : Bytes announce_bytes
unfolding is_bytes is_byte table_ok all ◌and◌
announce_bytes_lem = is_each 199 announce_bytes refl

each : (i : ℕ) → i < 4 → RecordableEntry (get_or entries i no_entry)
each zero l = record { clock = lit< tt; port = lit< tt; word = lit< tt; body = data_bytes_lem }
each (suc zero) l = record { clock = lit< tt; port = lit< tt; word = lit< tt; body = announce_bytes_lem }
each (suc (suc zero)) l = record { clock = lit< tt; port = lit< tt; word = lit< tt; body = announce_bytes_lem }
each (suc (suc (suc zero))) l = record { clock = lit< tt; port = lit< tt; word = lit< tt; body = data_bytes_lem }
each (suc (suc (suc (suc i)))) l = absurd (omega arith)

bodies : length (bodies_of entries) ≡ 508
unfolding bodies_of joined
bodies = refl

pub recordable : Recordable entries
recordable = record { each = each; short = omega (arith, file_size entries, bodies) }

taken : file_refusal file ≡ 0
taken = file_taken entries recordable

given : Bytes file
given = file_bytes entries recordable

-- its calls
calls : calls_of file ≡ map call_of entries
unfolding calls_of
calls = ap (map call_of) (file_entries entries recordable)

-- ---- the tables: two ports on, and a guest
abbrev relay : Relay
relay = hosting prepared_relay

abbrev pub start : List ℕ
start = bytes_of relay

start_held : Held relay
unfolding rules shaped is_bytes is_byte
start_held = record { shape = refl; ok = refl }

start_ok_lem : well_formed start ≡ true
start_ok_lem = ok_bytes relay start_held.shape start_held.ok

start_bytes_lem : Bytes start
start_bytes_lem = bytes_bytes relay start_held.shape start_held.ok

start_relay : relay_of start ≡ relay
start_relay = back relay start_held.shape start_held.ok

-- ---- what the rules answer
record Gives (es : List Entry) (r : Relay) (t : Tally) (said : List Answer) (after : Relay) (counts : Tally) : Type 0 where
  answers : map answer_in (replies (map call_of es) r t) ≡ said
  relay : relay_after (map call_of es) r t ≡ after
  tally : tally_after (map call_of es) r t ≡ counts

no_entry_lem : {r : Relay} {t : Tally} → Gives [] r t [] r t
unfolding replies relay_after tally_after
no_entry_lem = record { answers = refl; relay = refl; tally = refl }

-- an entry, whose call is known with another output, and those after it
first_entry : (bytes : List ℕ) (clock port : ℕ) {es : List Entry} {r between after : Relay} {t counts end : Tally} {reply : Reply} {said : List Answer}
    → perform (arrives bytes clock port) r t ≡ record { reply = reply; relay = between; tally = counts }
    → Gives es between counts said after end → Gives (recorded bytes clock port ∷ es) r t (answer_in reply ∷ said) after end
unfolding replies relay_after tally_after call_of
first_entry bytes clock port {es} {r} {between} {after} {t} {counts} {end} {reply} {said} e rest =
    let a : Arrival = record { bytes = bytes; port = port; clock = clock; signed = true } in
    let x : Outcome = perform (packet a (replicate least_output 0)) r t in
    let (same_answer, same-relay, same-tally) = other_output a r t (replicate least_output 0) blank refl in
    let to-answer : answer_in x.reply ≡ answer_in reply = same_answer ∙ ap (λ (o : Outcome). answer_in o.reply) e in
    let to-relay : x.relay ≡ between = same-relay ∙ ap (λ (o : Outcome). o.relay) e in
    let to-tally : x.tally ≡ counts = same-tally ∙ ap (λ (o : Outcome). o.tally) e in
    record {
      answers =
          ap (λ (y : Answer). y ∷ map answer_in (replies (map call_of es) x.relay x.tally)) to-answer
          ∙ ap (λ (q : Relay). answer_in reply ∷ map answer_in (replies (map call_of es) q x.tally)) to-relay
          ∙ ap (λ (u : Tally). answer_in reply ∷ map answer_in (replies (map call_of es) between u)) to-tally
          ∙ ap (λ (l : List Answer). answer_in reply ∷ l) rest.answers;
      relay =
          ap (λ (q : Relay). relay_after (map call_of es) q x.tally) to-relay
          ∙ ap (λ (u : Tally). relay_after (map call_of es) between u) to-tally
          ∙ rest.relay;
      tally =
          ap (λ (q : Relay). tally_after (map call_of es) q x.tally) to-relay
          ∙ ap (λ (u : Tally). tally_after (map call_of es) between u) to-tally
          ∙ rest.tally;
    }

early_refused : perform (arrives data_bytes 900 77) relay new_tally ≡ record { reply = answered (Refused 4) blank; relay = relay; tally = new_tally }
unfolding rules
early_refused = refl

-- the spread leaves by port 2, the data by port 1, 16 bytes shorter
abbrev pub answers_by : (spread forwarded : ℕ) → List Answer
answers_by spread forwarded = Refused 4 ∷ Judged (Spread spread 215) ∷ Judged (Drop Duplicate) ∷ Judged (Forward forwarded 39) ∷ []

abbrev after : Relay
after = hosting (carried_relay data_key)

gives : Gives entries relay new_tally (answers_by 4 1) after (counting 1 1 1)
unfolding answer_in
gives =
    first_entry data_bytes 900 77 early_refused
    (first_entry announce_bytes 1000 1 announce_spread
    (first_entry announce_bytes 1000 1 announce_dropped
    (first_entry data_bytes 2000 2 data_carried no_entry_lem)))

-- ---- demand 2: replay_follows_the_rules
pub replayed : ((replay_on file start new_tally).answers ≡ answers_by 4 1)
    × ((replay_on file start new_tally).tables ≡ bytes_of after)
    × ((replay_on file start new_tally).tally ≡ counting 1 1 1)
replayed =
    let follows = replay_follows_the_rules file start new_tally given taken start_bytes_lem start_ok_lem in (
      follows.0
          ∙ ap (λ (r : Relay). map answer_in (replies (calls_of file) r new_tally)) start_relay
          ∙ ap (λ (cs : List Call). map answer_in (replies cs relay new_tally)) calls
          ∙ gives.answers,
      follows.1
          ∙ ap (λ (r : Relay). bytes_of (relay_after (calls_of file) r new_tally)) start_relay
          ∙ ap (λ (cs : List Call). bytes_of (relay_after cs relay new_tally)) calls
          ∙ ap bytes_of gives.relay,
      follows.2
          ∙ ap (λ (r : Relay). tally_after (calls_of file) r new_tally) start_relay
          ∙ ap (λ (cs : List Call). tally_after cs relay new_tally) calls
          ∙ gives.tally,
    )

-- `1 refused 4`, `2 spread 2`, `3 drop 2`, `4 forward 1`
abbrev text : List ℕ
text =
    49 ∷ 32 ∷ 114 ∷ 101 ∷ 102 ∷ 117 ∷ 115 ∷ 101 ∷ 100 ∷ 32 ∷ 52 ∷ 10 ∷
    50 ∷ 32 ∷ 115 ∷ 112 ∷ 114 ∷ 101 ∷ 97 ∷ 100 ∷ 32 ∷ 50 ∷ 10 ∷
    51 ∷ 32 ∷ 100 ∷ 114 ∷ 111 ∷ 112 ∷ 32 ∷ 50 ∷ 10 ∷
    52 ∷ 32 ∷ 102 ∷ 111 ∷ 114 ∷ 119 ∷ 97 ∷ 114 ∷ 100 ∷ 32 ∷ 49 ∷ 10 ∷ []

lines : lines_from 1 (answers_by 4 1) ≡ text
unfolding digit numeral_within numeral spaced words_line joined in_set ports_below tells_value test_word reason_words verdict_words answer_words answer_line
    lines_from ◌then◌otherwise◌ ◌or◌ ◌and◌
lines = refl

pub printed : (replay_on file start new_tally).text ≡ text
printed = replay_lines file start new_tally taken ∙ ap (lines_from 1) replayed.0 ∙ lines

-- tables of no bytes: each entry is refused with 7
pub no_tables : (replay_on file [] new_tally).answers ≡ replicate 4 (Refused 7)
unfolding well_formed ◌then◌otherwise◌ rules
no_tables =
    (replay_of_no_tables file [] new_tally given taken (λ i. lit< tt) refl).0
    ∙ ap (λ (n : ℕ). replicate n (Refused 7)) (sym (entries_length file) ∙ ap length (file_entries entries recordable))

-- ---- demand 1: replay_refuses_exactly, of the first entry
first_is : entry_of file 0 ≡ recorded data_bytes 900 77
first_is =
    sym (entries_at file 0 (omega (arith, entries_length file, ap length (file_entries entries recordable))))
    ∙ ap (λ (es : List Entry). get_or es 0 no_entry) (file_entries entries recordable)

pub first_refused : perform_on (call_of (recorded data_bytes 900 77)) start new_tally
    ≡ record { reply = answered (Refused 4) (replicate least_output 0); tables = start; tally = new_tally }
unfolding CallBytes is_bytes is_byte call_of refusal refusing rules steps_on
first_refused =
    let exactly = replay_refuses_exactly file start new_tally given taken start_bytes_lem 0
    (omega (arith, entries_length file, ap length (file_entries entries recordable))) in
    let here : RefusesExactly (call_of (recorded data_bytes 900 77)) start new_tally =
    subst (λ (e : Entry). RefusesExactly (call_of e) start new_tally) first_is exactly in
    let four : refusal_on (call_of (recorded data_bytes 900 77)) start ≡ 4 = row_of start_held (call_of (recorded data_bytes 900 77)) refl refl in
    here.refused (ap (λ (n : ℕ). eqb n 0) four)
    ∙ ap (λ (n : ℕ). record { reply = refusing (call_of (recorded data_bytes 900 77)) n; tables = start; tally = new_tally }) four

-- ---- demand 3: replay_forgets_nothing. Every port moves one up: the spread leaves by 3, the data by 2, and port 77 stays
pub moved : ((replay_on (renamed_file one_up file) (renamed_tables one_up start) new_tally).answers ≡ answers_by 8 2)
    × ((replay_on (renamed_file one_up file) (renamed_tables one_up start) new_tally).tally ≡ counting 1 1 1)
unfolding rules rename_answer rename_verdict image_set in_set
moved =
    let holds = replay_forgets_nothing one_up file start new_tally one_up_ok given taken start_bytes_lem start_ok_lem in
    (holds.answers ∙ ap (map (rename_answer one_up)) replayed.0, holds.tally ∙ replayed.2)
