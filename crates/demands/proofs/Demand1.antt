-- Demand 1 (docs/scope/00-demands.md), about the bytes: "Every call ends, whatever bytes, tables, clock or port number come in. Bad input gets a numbered
-- refusal from the list in document 01, by its order of checks, exactly when the list says, and a refusal changes no byte of tables, tally or output."
-- That every call ends is part of each function's proof: a contract of Rattle says that the function returns.
use Prim.Native.Nat.{ℕ}
use mathlib.Core.Bool.{Bool, true, false, not, false≢true}
use mathlib.Core.List.{List}
use mathlib.Core.Path.{◌≡◌, refl, sym, ap, ◌∙◌}
use lib.Dec.{eqb, ltb, leb}
use lib.ListN.{length, get_or}
use borrow.Author.Tests.{ltb-true, ltb-false, eqb-true}
use Rattle.octets.specs.Bytes.{Bytes}
use Rattle.octets.specs.Index.{◌and◌}
use Rattle.octets.specs.Choice.{◌then◌otherwise◌, ◌or◌}
use Rattle.octets.proofs.Choice.{then_true, then_false}
use Rattle.sha256.specs.Sha256.{longest_message, answer}
use Rattle.sha256.specs.Sha256.{Digest}
use Rattle.sha256.proofs.Promise.{answer_short, answer_long}
use Rattle.packet.specs.Header.{access_code, type_two}
use Rattle.packet.specs.Read.{header_of, longest_packet, reading_rows, reading_refusal, reading}
use Rattle.packet.specs.Write.{least_output, packet_of, writing_rows, writing_refusal, Writing, writing}
use Rattle.packet.specs.Hash.{packet_hash_answer, link_id_answer}
use Rattle.packet.specs.declared.Parts.{Parts}
use Rattle.packet.specs.Places.{type_one_start, type_two_start, signature_width}
use Rattle.numbers.specs.Numbers.{port_count, local_count, mode_count, is_size, clock_limit}
use Rattle.rules.specs.Relay.{make_rate_settings, Port, Slot, empty, used, Relay}
use Rattle.rules.specs.View.{port_on, port_size, is_local, view_at}
use Rattle.rules.specs.Renumbering.{one_to_one}
use Rattle.rules.specs.Arrival.{Arrival}
use Rattle.rules.specs.Tests.{is_there}
use Rattle.rules.specs.Refusals.{rate_settings_ok, tables_ok, empty_local, packet_rows, refusal_by, packet_refusal}
use Rattle.octets.specs.Listed.{first_of}
use Rattle.rules.specs.Calls.{Setting, packet_call, judge, judged, settled, rule_of, table_refusal, settle}
use Rattle.rules.specs.Run.{Call, packet, on_tables, asks, saves, loads, port_setting, rate_setting, adding, removing, renumbering, marking, answered, save_reply}
use Rattle.rules.specs.Questions.{Question, port_settings, rate_settings, local_at, path_at, link_at, live_path, live_returns, live_hashes, the_last_clock, whether_word_matters, Told, none, a_port, an_address, a_path, a_link, came_with, told_of, row_seven, question_rule, question_refusal, tell}
use Rattle.rules.specs.declared.Answer.TheVariants.{Refused}
use Rattle.rules.specs.declared.Tally.{Tally}
use Rattle.rules.proofs.Accepted.{arrival_size}
use Rattle.tables.specs.Places.{table_size}
use Rattle.tables.specs.Layout.{relay_of, well_formed}
use Rattle.tables.proofs.Whole.{again, ok_relay}
use Rattle.tables.specs.Called.{written, called}
use Rattle.tables.specs.Asked.{tell_on}
use Rattle.settings.specs.Calls.{fresh_on}
use Rattle.relay.specs.Promise.{in_bytes, packet_on}
use Rattle.saved.specs.File.{saved_size}
use Rattle.saved.specs.Save.{save_rows, save_refusal}
use Rattle.saved.specs.Load.{length_wrong, kind_wrong, contents_wrong, bodies_wrong, load_rows, load_refusal, load_on}
use Rattle.saved.specs.Format.{saving, loading}
use Rattle.recording.specs.Reader.{length_wrong as recording_length_wrong, kind_wrong as recording_kind_wrong, places_wrong, words_wrong, file_rows, file_refusal}
use Rattle.surveying.specs.Promise.{start_on, recording_on}
use Rattle.surveying.specs.Survey.{recording_limit}
use Rattle.surveying.proofs.StartLaws.{not_begun, start_refusal}
use Rattle.surveying.proofs.SurveyLaws.{recording_refusal, refused_leaves}
use Rattle.announcing.specs.Announcing.{Announce, signed_bytes, announce_with, wrong_lengths, announce_rows, announce_refusal, any_signature, signing, building}
use Rattle.announcing.proofs.Lengths.{laid_refusal, laid_stays}
use Rattle.announcing.proofs.RoundTrip.{refused_alike}
use Rattle.demands.specs.Bytes.{of_packet, of_called, of_asked, of_save, of_loaded, perform_on}
use Rattle.demands.specs.Refusals.{refusal, after_seven, refusal_on, refusing, is_refused, is_refusal}

-- ---- the statement
-- a call on the tables `start` and the tally `counts`
pub record RefusesExactly (c : Call) (start : List ℕ) (counts : Tally) : Type 0 where
  -- where a row's condition holds: its number alone, and output, tables and tally are as they were
  pub refused : eqb (refusal_on c start) 0 ≡ false
      → perform_on c start counts ≡ record { reply = refusing c (refusal_on c start); tables = start; tally = counts }
  -- where none holds: no refusal
  pub accepted : eqb (refusal_on c start) 0 ≡ true → is_refusal (perform_on c start counts).reply ≡ false

-- ---- tables that row 7 names
pub seven : (a : Arrival) (output t : List ℕ) (tally : Tally) → well_formed t ≡ false
    → perform_on (packet a output) t tally ≡ record { reply = answered (Refused 7) output; tables = t; tally = tally }
unfolding perform_on packet_on of_packet ◌then◌otherwise◌
seven a output t tally h = rw h

-- ---- all others
-- what a question is told where no row refuses it is no refusal
slot_given : {A : Type 0} (tells : A → Told) → ((x : A) → is_refused (tells x) ≡ false) → (slot : Slot A) → is_refused (told_of tells slot) ≡ false
unfolding told_of is_refused
slot_given tells given empty = refl
slot_given tells given (used x) = given x

port_given : (b : Bool) (p : Port) → is_refused (b then none otherwise a_port p) ≡ false
unfolding is_refused ◌then◌otherwise◌
port_given true p = refl
port_given false p = refl

answer_given : (q : Question) (r : Relay) → is_refused ((question_rule q).answer r) ≡ false
unfolding question_rule is_refused ◌then◌otherwise◌
answer_given (port_settings port) r = port_given (leb port_count port) _
answer_given rate_settings r = refl
answer_given (local_at place) r = slot_given an_address (λ _. refl) _
answer_given (path_at place) r = slot_given a_path (λ _. refl) _
answer_given (link_at place) r = slot_given a_link (λ _. refl) _
answer_given (live_path destination clock) r = slot_given a_path (λ _. refl) _
answer_given (live_returns clock) r = refl
answer_given (live_hashes clock) r = refl
answer_given the_last_clock r = refl
answer_given (whether_word_matters bytes port clock room) r = refl

module _ (t : List ℕ) (tally : Tally) (b : Bytes t) (h : well_formed t ≡ true) where
  setting_refused : (n : ℕ) (after : Relay) (call : Relay → Setting) → call (relay_of t) ≡ settled n (relay_of t) after → eqb n 0 ≡ false
      → called t call ≡ record { refusal = n; tables = t }
  unfolding called written settled ◌then◌otherwise◌
  setting_refused n after call e z = rw (h, e, z, again t b h)

  setting_accepted : (n : ℕ) (after : Relay) (call : Relay → Setting) → call (relay_of t) ≡ settled n (relay_of t) after → eqb n 0 ≡ true
      → not (eqb (called t call).refusal 0) ≡ false
  unfolding called written settled ◌then◌otherwise◌
  setting_accepted n after call e z = rw (h, e, z)

  packet_refused_lem : (a : Arrival) (output : List ℕ) → eqb (packet_refusal (relay_of t) a (length output)) 0 ≡ false
      → perform_on (packet a output) t tally
      ≡ record { reply = answered (Refused (packet_refusal (relay_of t) a (length output))) output; tables = t; tally = tally }
  unfolding perform_on packet_on packet_call in_bytes of_packet ◌then◌otherwise◌
  packet_refused_lem a output z = rw (h, z, again t b h)

  packet_accepted : (a : Arrival) (output : List ℕ) → eqb (packet_refusal (relay_of t) a (length output)) 0 ≡ true
      → is_refusal (perform_on (packet a output) t tally).reply ≡ false
  unfolding perform_on packet_on packet_call judge judged in_bytes of_packet is_refusal ◌then◌otherwise◌
  packet_accepted a output z = rw (h, z)

-- ---- the theorem
-- a call whose row 7 stands first: on tables that it names, and on all others
module _ (t : List ℕ) (tally : Tally) (b : Bytes t) where
  by_seven : (c : Call) → refusal_on c t ≡ after_seven c t
      → (well_formed t ≡ false → perform_on c t tally ≡ record { reply = refusing c 7; tables = t; tally = tally })
      → (well_formed t ≡ true → eqb (refusal c (relay_of t)) 0 ≡ false
      → perform_on c t tally ≡ record { reply = refusing c (refusal c (relay_of t)); tables = t; tally = tally })
      → (well_formed t ≡ true → eqb (refusal c (relay_of t)) 0 ≡ true → is_refusal (perform_on c t tally).reply ≡ false)
      → RefusesExactly c t tally
  unfolding after_seven ◌then◌otherwise◌
  by_seven c same named rows passed = go (well_formed t) refl
    where
      go : (v : Bool) → well_formed t ≡ v → RefusesExactly c t tally
      go true h =
          let e : refusal_on c t ≡ refusal c (relay_of t) = same ∙ rw h in
          record { refused = λ z. rw e (rows h (rw e at z)); accepted = λ z. passed h (rw e at z) }
      go false h =
          let e : refusal_on c t ≡ 7 = same ∙ rw h in
          record { refused = λ z. rw e (named h); accepted = λ z. absurd (false≢true (rw e at z)) }

-- for every call, and all bytes
pub refuses_exactly : (c : Call) (tables : List ℕ) (tally : Tally) → Bytes tables → RefusesExactly c tables tally
unfolding refusal_on refusal perform_on of_called of_asked of_save of_loaded called settle tell_on tell save_reply load_on refusing is_refusal ◌then◌otherwise◌
refuses_exactly (packet a output) t tally b =
    by_seven t tally b (packet a output) refl (seven a output t tally) (λ h z. packet_refused_lem t tally b h a output z)
    (λ h z. packet_accepted t tally b h a output z)
refuses_exactly (on_tables c) t tally b =
    by_seven t tally b (on_tables c) refl (λ h. rw h) (λ h z. ap (of_called tally) (setting_refused t tally b h _ _ (settle c) refl z))
    (λ h z. setting_accepted t tally b h _ _ (settle c) refl z)
refuses_exactly (asks q) t tally b =
    by_seven t tally b (asks q) refl (λ h. rw h) (λ h z. rw (h, z)) (λ h z. rw (h, z) (answer_given q (relay_of t)))
refuses_exactly (saves format room) t tally b = record { refused = λ z. rw z; accepted = λ z. rw z }
refuses_exactly (loads format file) t tally b = record { refused = λ z. rw z; accepted = λ z. rw z }

-- ---- the rows of each call, written out
-- well-formed tables hold a relay that row 7 doesn't name, so that the rows below it decide
after_seven_lem : (t : List ℕ) (below : ℕ)
    → (well_formed t then (not (tables_ok (relay_of t)) then 7 otherwise below) otherwise 7) ≡ (not (well_formed t) then 7 otherwise below)
unfolding ◌then◌otherwise◌
after_seven_lem t below = go (well_formed t) refl
  where
    go : (v : Bool) → well_formed t ≡ v
        → (well_formed t then (not (tables_ok (relay_of t)) then 7 otherwise below) otherwise 7) ≡ (not (well_formed t) then 7 otherwise below)
    go true h = rw (h, ok_relay t h)
    go false h = rw h

-- a packet: 7, 6, 4, 5, 1, 2, 3, 1. Well-formed tables hold no size outside the range, so that the reader's 9 isn't given
pub packet_rows_lem : (a : Arrival) (output tables : List ℕ)
    → refusal_on (packet a output) tables
    ≡ (not (well_formed tables) then 7 otherwise
    ltb (length output) least_output then 6 otherwise
    not (port_on (relay_of tables) a.port) then 4 otherwise
    leb clock_limit a.clock or ltb a.clock (relay_of tables).clock then 5 otherwise
    ltb (length a.bytes) type_one_start then 1 otherwise
    ltb (port_size (relay_of tables) a.port) (length a.bytes) then 2 otherwise
    access_code (header_of a.bytes) then 3 otherwise
    type_two (header_of a.bytes) and ltb (length a.bytes) type_two_start then 1 otherwise 0)
unfolding refusal_on after_seven refusal refusal_by packet_rows first_of reading_refusal reading_rows ◌then◌otherwise◌
packet_rows_lem a output tables = after_seven_lem tables (below (is_size size)) ∙ go (well_formed tables) refl
  where
    size : ℕ
    size = port_size (relay_of tables) a.port

    below : Bool → ℕ
    below sized =
        ltb (length output) least_output then 6 otherwise
        not (port_on (relay_of tables) a.port) then 4 otherwise
        leb clock_limit a.clock or ltb a.clock (relay_of tables).clock then 5 otherwise
        not sized then 9 otherwise
        ltb (length a.bytes) type_one_start then 1 otherwise
        ltb size (length a.bytes) then 2 otherwise
        access_code (header_of a.bytes) then 3 otherwise
        type_two (header_of a.bytes) and ltb (length a.bytes) type_two_start then 1 otherwise 0

    go : (v : Bool) → well_formed tables ≡ v
        → (not (well_formed tables) then 7 otherwise below (is_size size)) ≡ (not (well_formed tables) then 7 otherwise below true)
    go true h =
        ap (λ (sized : Bool). not (well_formed tables) then 7 otherwise below sized) (arrival_size (relay_of tables) (ok_relay tables h) a.port)
    go false h = rw h

-- setting a port: 7, 9
pub port_rows : (port : ℕ) (on : Bool) (mode size : ℕ) (tables : List ℕ)
    → refusal_on (port_setting port on mode size) tables
    ≡ (not (well_formed tables) then 7 otherwise leb port_count port or leb mode_count mode or not (is_size size) then 9 otherwise 0)
unfolding refusal_on after_seven refusal table_refusal rule_of first_of
port_rows port on mode size tables = after_seven_lem tables _

-- setting the announce rate: 7, 9
pub rate_rows : (target grace penalty : ℕ) (tables : List ℕ)
    → refusal_on (rate_setting target grace penalty) tables
    ≡ (not (well_formed tables) then 7 otherwise not (rate_settings_ok (make_rate_settings target grace penalty)) then 9 otherwise 0)
unfolding refusal_on after_seven refusal table_refusal rule_of first_of
rate_rows target grace penalty tables = after_seven_lem tables _

-- adding a local address: 7, 11, 10
pub adding_rows : (address tables : List ℕ)
    → refusal_on (adding address) tables
    ≡ (not (well_formed tables) then 7 otherwise
    is_local (relay_of tables) address then 11 otherwise
    leb local_count (empty_local (relay_of tables)) then 10 otherwise 0)
unfolding refusal_on after_seven refusal table_refusal rule_of first_of
adding_rows address tables = after_seven_lem tables _

-- removing one: 7, 11
pub removing_rows : (address tables : List ℕ)
    → refusal_on (removing address) tables ≡ (not (well_formed tables) then 7 otherwise not (is_local (relay_of tables) address) then 11 otherwise 0)
unfolding refusal_on after_seven refusal table_refusal rule_of first_of
removing_rows address tables = after_seven_lem tables _

-- renumbering: 7, 8
pub renumbering_rows : (images tables : List ℕ)
    → refusal_on (renumbering images) tables ≡ (not (well_formed tables) then 7 otherwise not (one_to_one images) then 8 otherwise 0)
unfolding refusal_on after_seven refusal table_refusal rule_of first_of
renumbering_rows images tables = after_seven_lem tables _

-- marking a destination's live path unresponsive: 7, 5, 12
pub marking_rows : (destination : List ℕ) (clock : ℕ) (tables : List ℕ)
    → refusal_on (marking destination clock) tables
    ≡ (not (well_formed tables) then 7 otherwise
    leb clock_limit clock or ltb clock (relay_of tables).clock then 5 otherwise
    not (is_there ((view_at clock (relay_of tables)).path destination)) then 12 otherwise 0)
unfolding refusal_on after_seven refusal table_refusal rule_of first_of
marking_rows destination clock tables = after_seven_lem tables _

-- saving: 7, 25
pub save_rows_lem : (room tables : List ℕ)
    → refusal_on (saving room) tables ≡ (not (well_formed tables) then 7 otherwise ltb (length room) saved_size then 25 otherwise 0)
unfolding refusal_on save_refusal save_rows first_of
save_rows_lem room tables = refl

-- loading: 20, 21, 22, 24, 25
pub load_rows_lem : (file tables : List ℕ)
    → refusal_on (loading file) tables
    ≡ (length_wrong file then 20 otherwise
    kind_wrong file then 21 otherwise
    contents_wrong file then 22 otherwise
    bodies_wrong file then 24 otherwise
    not (eqb (length tables) table_size) then 25 otherwise 0)
unfolding refusal_on load_refusal load_rows first_of
load_rows_lem file tables = refl

-- a question: 7
pub question_rows : (tables : List ℕ)
    → (let seven : ℕ = not (well_formed tables) then 7 otherwise 0 in
    ((port : ℕ) → refusal_on (asks (port_settings port)) tables ≡ seven)
    × (refusal_on (asks rate_settings) tables ≡ seven)
    × ((place : ℕ) → refusal_on (asks (local_at place)) tables ≡ seven)
    × ((place : ℕ) → refusal_on (asks (path_at place)) tables ≡ seven)
    × ((place : ℕ) → refusal_on (asks (link_at place)) tables ≡ seven)
    × ((destination : List ℕ) (clock : ℕ) → refusal_on (asks (live_path destination clock)) tables ≡ seven)
    × ((clock : ℕ) → refusal_on (asks (live_returns clock)) tables ≡ seven)
    × ((clock : ℕ) → refusal_on (asks (live_hashes clock)) tables ≡ seven)
    × (refusal_on (asks the_last_clock) tables ≡ seven))
unfolding refusal_on after_seven refusal question_refusal question_rule row_seven first_of
question_rows tables =
    let row = after_seven_lem tables 0 in
    (λ port. row, row, λ place. row, λ place. row, λ place. row, λ destination clock. row, λ clock. row, λ clock. row, row)

-- whether the signature word matters: as the packet, whatever its word
pub word_rows : (bytes : List ℕ) (port clock : ℕ) (word : Bool) (output tables : List ℕ)
    → refusal_on (asks (whether_word_matters bytes port clock (length output))) tables ≡ refusal_on (packet (came_with bytes port clock word) output) tables
unfolding refusal_on after_seven refusal question_refusal question_rule
word_rows bytes port clock word output tables = refl

-- ---- the calls that take no relay's tables
-- hashing: 2
pub hashing_rows : (m : List ℕ) → (answer m).refusal ≡ (ltb longest_message (length m) then 2 otherwise 0)
hashing_rows m = go (ltb longest_message (length m)) refl
  where
    go : (v : Bool) → ltb longest_message (length m) ≡ v → (answer m).refusal ≡ (ltb longest_message (length m) then 2 otherwise 0)
    go true t = ap (λ (d : Digest). d.refusal) (answer_long m (ltb-true longest_message (length m) t)) ∙ sym (then_true 2 0 t)
    go false t = ap (λ (d : Digest). d.refusal) (answer_short m (ltb-false longest_message (length m) t)) ∙ sym (then_false 2 0 t)

-- reading against a size: 9, 1, 2, 3, 1. The packet hash and the link id read at 500
pub reading_rows_lem : (size : ℕ) (p : List ℕ)
    → (reading size p).refusal
    ≡ (not (is_size size) then 9 otherwise
    ltb (length p) type_one_start then 1 otherwise
    ltb size (length p) then 2 otherwise
    access_code (header_of p) then 3 otherwise
    type_two (header_of p) and ltb (length p) type_two_start then 1 otherwise 0)
unfolding reading reading_refusal reading_rows first_of
reading_rows_lem size p = refl

pub hash_rows : (p : List ℕ)
    → ((packet_hash_answer longest_packet p).refusal ≡ (reading longest_packet p).refusal)
    × ((link_id_answer longest_packet p).refusal ≡ (reading longest_packet p).refusal)
unfolding packet_hash_answer link_id_answer reading
hash_rows p = (refl, refl)

-- writing: 6, 2, 3; a refusal gives no length, and leaves the output
module _ (q : Parts) (body output : List ℕ) where
  row : ℕ
  row = writing_refusal (length output) q body

  row_given : (writing q body output).answer.refusal ≡ row
  unfolding row writing
  row_given = go (eqb row 0) refl
    where
      go : (v : Bool) → eqb row 0 ≡ v → (writing q body output).answer.refusal ≡ row
      go true t = ap (λ (w : Writing). w.answer.refusal) (then_true _ _ t) ∙ sym (eqb-true row 0 t)
      go false t = ap (λ (w : Writing). w.answer.refusal) (then_false _ _ t)

  pub writing_rows_lem : (writing q body output).answer.refusal
      ≡ (ltb (length output) least_output then 6 otherwise
      ltb longest_packet (length (packet_of q body)) then 2 otherwise
      access_code q.header then 3 otherwise 0)
  unfolding row writing_refusal writing_rows first_of
  writing_rows_lem = row_given

  pub writing_stays : eqb (writing q body output).answer.refusal 0 ≡ false
      → ((writing q body output).answer.length ≡ 0) × ((writing q body output).output ≡ output)
  unfolding row writing
  writing_stays z =
      let refused : eqb row 0 ≡ false = ap (λ (n : ℕ). eqb n 0) (sym row_given) ∙ z in
      (ap (λ (w : Writing). w.answer.length) (then_false _ _ refused), ap (λ (w : Writing). w.output) (then_false _ _ refused))

-- building an announce of our own: 26, 5, 27, 6; a refusal gives no length, and leaves the room
module _ (a : Announce) (signature room : List ℕ) where
  pub building_rows : (building a signature room).answer.refusal
      ≡ (wrong_lengths (length a.keys) (length a.name_hash) (length a.random) (length a.ratchet) (length signature) then 26 otherwise
      leb clock_limit a.clock then 5 otherwise
      ltb longest_packet (length (announce_with a signature)) then 27 otherwise
      ltb (length room) least_output then 6 otherwise 0)
  unfolding building announce_refusal announce_rows first_of
  building_rows = laid_refusal (announce_refusal a signature (length room)) (announce_with a signature) room

  pub building_stays : eqb (building a signature room).answer.refusal 0 ≡ false
      → ((building a signature room).answer.length ≡ 0) × ((building a signature room).output ≡ room)
  unfolding building
  building_stays z =
      let row = announce_refusal a signature (length room) in
      laid_stays row (announce_with a signature) room (ap (λ (n : ℕ). eqb n 0) (sym (laid_refusal row (announce_with a signature) room)) ∙ z)

-- "for the signing bytes too": as the announce, whatever the signature's 64 bytes
module _ (a : Announce) (room : List ℕ) where
  pub signing_rows : (signature : List ℕ) → length signature ≡ signature_width → (signing a room).answer.refusal ≡ (building a signature room).answer.refusal
  unfolding signing building
  signing_rows signature e =
      laid_refusal _ (signed_bytes a) room
      ∙ refused_alike a signature (length room) e
      ∙ sym (laid_refusal (announce_refusal a signature (length room)) (announce_with a signature) room)

  pub signing_stays : eqb (signing a room).answer.refusal 0 ≡ false → ((signing a room).answer.length ≡ 0) × ((signing a room).output ≡ room)
  unfolding signing
  signing_stays z =
      let row = announce_refusal a any_signature (length room) in
      laid_stays row (signed_bytes a) room (ap (λ (n : ℕ). eqb n 0) (sym (laid_refusal row (signed_bytes a) room)) ∙ z)

-- a fresh relay: 7 for a buffer of another size, which stays as it was
pub fresh_rows : (tables own : List ℕ) → (fresh_on tables own).refusal ≡ (eqb (length tables) table_size then 0 otherwise 7)
unfolding fresh_on ◌then◌otherwise◌
fresh_rows tables own = go (eqb (length tables) table_size) refl
  where
    go : (v : Bool) → eqb (length tables) table_size ≡ v → (fresh_on tables own).refusal ≡ (eqb (length tables) table_size then 0 otherwise 7)
    go true h = rw h
    go false h = rw h

pub fresh_stays : (tables own : List ℕ) → eqb (length tables) table_size ≡ false → (fresh_on tables own).tables ≡ tables
unfolding fresh_on ◌then◌otherwise◌
fresh_stays tables own z = rw z

-- ---- the survey, wish 14: a settings file as a load gives it; a recording 29 where sixteen were read, else as the reader gives it. A refusal leaves tables
-- and counters as they were
module _ (file start work counts refusals : List ℕ) where
  pub settings_rows : (start_on file start work counts refusals).refusal ≡ load_refusal file table_size
  settings_rows = start_refusal file start work counts refusals

  pub settings_stay : (load_refusal file table_size ≡ 0 → ⊥) → start_on file start work counts refusals
      ≡ record { refusal = load_refusal file table_size; start = start; work = work; counts = counts; refusals = refusals }
  settings_stay = not_begun file start work counts refusals

  pub recording_rows : (recording_on file start work counts refusals).refusal
      ≡ (leb recording_limit (get_or refusals 0 0) then 29 otherwise
      recording_length_wrong file then 20 otherwise
      recording_kind_wrong file then 21 otherwise
      places_wrong file then 22 otherwise
      words_wrong file then 23 otherwise 0)
  unfolding file_refusal file_rows first_of
  recording_rows = recording_refusal file start work counts refusals

  pub recording_stays : ((recording_on file start work counts refusals).refusal ≡ 0 → ⊥)
      → ((recording_on file start work counts refusals).start ≡ start)
      × ((recording_on file start work counts refusals).work ≡ work)
      × ((recording_on file start work counts refusals).counts ≡ counts)
  recording_stays = refused_leaves file start work counts refusals
