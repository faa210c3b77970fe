-- Demands 1 to 3 of a replay (document 02, Wish 1: "In demands 2 and 3 a replay counts as the calls it makes, one by one."), from all tables:
--   replay_performed, step_performed
--                    a replay is its entries' packet calls, one by one, and each of its steps is one of them;
--   recording_rows, recorded_rows, recorded_stays, missing_entry, refused_file
--                    demand 1, of files: their refusals, in order; a refusal changes nothing;
--   replay_refuses_exactly
--                    demand 1, of each call;
--   replay_follows_the_rules, replay_counts_history, replay_of_no_tables
--                    demand 2, from well-formed tables; from all others each entry is refused with 7, and nothing changes;
--   renamed_taken, renamed_entries, renamed_length, renamed_calls, replay_forgets_nothing
--                    demand 3: the file's ports renamed give the answers renamed.
use Prim.Native.Nat.{ℕ, zero, suc, ◌+◌, ◌≤◌, ◌<◌}
use native.Mathlib.Omega.{arith}
use mathlib.Core.Bool.{Bool, true, false, not}
use mathlib.Core.List.{List, [], ◌∷◌, ◌++◌, map}
use mathlib.Core.Path.{◌≡◌, refl, sym, ap, subst, ◌∙◌}
use lib.Dec.{eqb, ltb}
use lib.ListN.{length, get_or, drop, replicate, length-map}
use borrow.Author.Tests.{ltb-true, ltb-false, eqb-true}
use Rattle.octets.specs.Bytes.{Bytes}
use Rattle.octets.specs.Index.{◌and◌, list_of}
use Rattle.octets.specs.Choice.{◌then◌otherwise◌, ◌or◌}
use Rattle.octets.specs.Listed.{first_of}
use Rattle.octets.specs.Part.{joined}
use Rattle.octets.proofs.Choice.{then_true, then_false}
use Rattle.octets.proofs.ListOf.{list_of_length, list_of_at}
use Rattle.rules.specs.Renumbering.{image, one_to_one}
use Rattle.rules.specs.Answers.{rename_answer}
use Rattle.rules.specs.Run.{EachCall, Call, renumbering, Reply, answered, numbered, told, saved, unsaved, replies, relay_after, tally_after, rename_arrival, rename_call, rename_reply, no_call, moves_ports, none_renumbers, sets_relay, none_loads}
use Rattle.rules.specs.declared.Answer.{Answer}
use Rattle.rules.specs.declared.Answer.TheVariants.{Refused}
use Rattle.rules.specs.declared.Tally.{Tally}
use Rattle.rules.proofs.History.{TallyFits, CountsHistory}
use Rattle.rules.proofs.Images.{image_port, image_other, image_below}
use Rattle.tables.specs.Layout.{relay_of, bytes_of, well_formed}
use Rattle.tables.specs.Called.{Called}
use Rattle.tables.proofs.All.{is_bytes_lem}
use Rattle.relay.specs.Promise.{JudgementOn}
use Rattle.recording.specs.Shape.{entry_place, count_of}
use Rattle.recording.specs.Format.{Entry, longest_file, head_width, file_of, RecordableEntry, no_entry, Recordable}
use Rattle.recording.specs.Reader.{length_wrong, kind_wrong, places_wrong, words_wrong, file_rows, file_refusal, is_there, entry_of, entries_of}
use Rattle.recording.specs.Writer.{given_words_wrong, given_clocks_wrong, add_up, file_length, writing_rows, writing_refusal, Writing, writing, bodies_of}
use Rattle.recording.proofs.ReadLaws.{entries_length, taken}
use Rattle.recording.proofs.RoundTrip.{file_size, file_taken, file_entries, entries_file, entries_recordable}
use Rattle.recording.proofs.Made.{read_entry}
use Rattle.replaying.specs.Promise.{entry_call, StepOn, step_of, step_on, ReplayOn, goes_on, replay_from, replay_on, steps_on}
use Rattle.replaying.proofs.StepLaws.{step_none, step_there}
use Rattle.replaying.proofs.Replay.{steps_calls, replay_calls}
use Rattle.text.specs.Words.{words_line, refused_words}
use Rattle.demands.specs.Given.{CallBytes, CallsBytes}
use Rattle.demands.specs.Bytes.{OutcomeOn, of_packet, of_called, perform_on, replies_on, tables_after_on, tally_after_on}
use Rattle.demands.specs.Replays.{call_of, calls_of, answer_in, IsPerformed, rename_entry, renamed_file}
use Rattle.demands.proofs.Demand1.{RefusesExactly, seven, refuses_exactly}
use Rattle.demands.proofs.Demand2.{follows_the_rules, counts_history, stays_bytes}
use Rattle.demands.proofs.Demand3.{renamed_tables, forgets_nothing_on, renamed_by_the_call}
use Rattle.numbers.specs.Numbers.{port_count}

-- ---- demand 1, of files
-- reading a recording: 20, 21, 22, 23
pub recording_rows : (f : List ℕ)
    → file_refusal f
    ≡ (length_wrong f then 20 otherwise
    kind_wrong f then 21 otherwise
    places_wrong f then 22 otherwise
    words_wrong f then 23 otherwise 0)
unfolding file_refusal file_rows first_of
recording_rows f = refl

-- writing one: 23, 5, 20, 25; a refusal gives no length, and leaves the room
module _ (g bodies room : List ℕ) where
  row : ℕ
  row = writing_refusal g bodies (length room)

  row_given : (writing g bodies room).answer.refusal ≡ row
  unfolding row writing
  row_given = go (eqb row 0) refl
    where
      go : (v : Bool) → eqb row 0 ≡ v → (writing g bodies room).answer.refusal ≡ row
      go true t = ap (λ (w : Writing). w.answer.refusal) (then_true _ _ t) ∙ sym (eqb-true row 0 t)
      go false t = ap (λ (w : Writing). w.answer.refusal) (then_false _ _ t)

  pub recorded_rows : (writing g bodies room).answer.refusal
      ≡ (given_words_wrong g then 23 otherwise
      given_clocks_wrong g then 5 otherwise
      not (add_up g bodies) or ltb longest_file (file_length g bodies) then 20 otherwise
      ltb (length room) (file_length g bodies) then 25 otherwise 0)
  unfolding row writing_refusal writing_rows first_of
  recorded_rows = row_given

  pub recorded_stays : eqb (writing g bodies room).answer.refusal 0 ≡ false
      → ((writing g bodies room).answer.length ≡ 0) × ((writing g bodies room).room ≡ room)
  unfolding row writing
  recorded_stays z =
      let refused : eqb row 0 ≡ false = ap (λ (n : ℕ). eqb n 0) (sym row_given) ∙ z in
      (ap (λ (w : Writing). w.answer.length) (then_false _ _ refused), ap (λ (w : Writing). w.room) (then_false _ _ refused))

-- a step of an entry that isn't there: 22, and tables and tally are as they were
pub missing_entry : (f : List ℕ) (i : ℕ) (t : List ℕ) (tally : Tally) → is_there f i ≡ false
    → step_on f i t tally ≡ record { there = false; answer = Refused 22; line = []; tables = t; tally = tally }
missing_entry f i t tally e = step_none f i t tally e

-- a refused file: its line alone, and tables and tally are as they were
pub refused_file : (f t : List ℕ) (tally : Tally) → eqb (file_refusal f) 0 ≡ false
    → replay_on f t tally ≡ record { refusal = file_refusal f; answers = []; text = words_line (refused_words (file_refusal f)); tables = t; tally = tally }
unfolding replay_on
refused_file f t tally z = then_false _ _ z

-- ---- a replay is perform_on over its entries
from_performed : (k : ℕ) (es : List Entry) (t : List ℕ) (tally : Tally) → IsPerformed (replay_from k es t tally) (map call_of es) t tally
unfolding replay_from goes_on replies_on tables_after_on tally_after_on perform_on of_packet call_of answer_in entry_call
from_performed k [] t tally = record { answers = refl; tables = refl; tally = refl }
from_performed k (e ∷ es) t tally =
    let j : JudgementOn = entry_call e t tally in
    let rest = from_performed (k + 1) es j.tables j.tally in
    record { answers = ap (λ (l : List Answer). j.answer ∷ l) rest.answers; tables = rest.tables; tally = rest.tally }

pub replay_performed : (f t : List ℕ) (tally : Tally) → file_refusal f ≡ 0 → IsPerformed (replay_on f t tally) (calls_of f) t tally
unfolding calls_of
replay_performed f t tally e =
    subst (λ (r : ReplayOn). IsPerformed r (map call_of (entries_of f)) t tally) (sym (replay_calls f t tally e)) (from_performed 1 (entries_of f) t tally)

-- a step as an outcome
abbrev pub outcome_of : StepOn → List ℕ → OutcomeOn
outcome_of s output = record { reply = answered s.answer output; tables = s.tables; tally = s.tally }

-- each step of an entry that is there is the entry's call
pub step_performed : (f : List ℕ) (i : ℕ) (t : List ℕ) (tally : Tally) → is_there f i ≡ true
    → perform_on (call_of (entry_of f i)) t tally ≡ outcome_of (step_on f i t tally) (entry_call (entry_of f i) t tally).output
unfolding perform_on of_packet call_of entry_call step_of
step_performed f i t tally e = rw (step_there f i t tally e)

-- ---- its calls are packets: none renumbers or loads
none_renumbers_lem : (es : List Entry) → none_renumbers (map call_of es) ≡ true
unfolding no_call moves_ports call_of ◌and◌
none_renumbers_lem [] = refl
none_renumbers_lem (e ∷ es) = none_renumbers_lem es

none_loads_lem : (es : List Entry) → none_loads (map call_of es) ≡ true
unfolding no_call sets_relay call_of ◌and◌
none_loads_lem [] = refl
none_loads_lem (e ∷ es) = none_loads_lem es

-- ---- they are given bytes
each_given : (es : List Entry) → ((i : ℕ) → i < length es → RecordableEntry (get_or es i no_entry)) → CallsBytes (map call_of es)
unfolding EachCall CallBytes call_of
each_given [] h = tt
each_given (e ∷ es) h = (is_bytes_lem (length e.body) e.body refl (h 0 (omega arith)).body, each_given es (λ i l. h (suc i) (omega arith)))

module _ (f : List ℕ) (b : Bytes f) (e : file_refusal f ≡ 0) where
  recordable : Recordable (entries_of f)
  recordable = entries_recordable f b e

  pub calls_given : CallsBytes (calls_of f)
  unfolding calls_of
  calls_given = each_given (entries_of f) recordable.each

  first_given : (n : ℕ) → n ≤ count_of f → CallsBytes (map call_of (list_of (entry_of f) n))
  first_given n l =
      each_given (list_of (entry_of f) n)
      (λ i h.
      let within : i < n = omega (arith, h, list_of_length (entry_of f) n) in
      subst RecordableEntry (sym (list_of_at (entry_of f) n i no_entry within)) (read_entry f b (taken f e) i (omega arith)))

-- ---- tables that row 7 names: each call is refused, and nothing changes
module _ (t : List ℕ) (tally : Tally) (h : well_formed t ≡ false) where
  tables_stay : (es : List Entry) → tables_after_on (map call_of es) t tally ≡ t
  unfolding tables_after_on call_of
  tables_stay [] = refl
  tables_stay (e ∷ es) = ap (λ (o : OutcomeOn). tables_after_on (map call_of es) o.tables o.tally) (seven _ _ t tally h) ∙ tables_stay es

  tally_stays : (es : List Entry) → tally_after_on (map call_of es) t tally ≡ tally
  unfolding tally_after_on call_of
  tally_stays [] = refl
  tally_stays (e ∷ es) = ap (λ (o : OutcomeOn). tally_after_on (map call_of es) o.tables o.tally) (seven _ _ t tally h) ∙ tally_stays es

  all_refused : (es : List Entry) → map answer_in (replies_on (map call_of es) t tally) ≡ replicate (length es) (Refused 7)
  unfolding replies_on answer_in call_of
  all_refused [] = refl
  all_refused (e ∷ es) =
      ap (λ (o : OutcomeOn). answer_in o.reply ∷ map answer_in (replies_on (map call_of es) o.tables o.tally)) (seven _ _ t tally h)
      ∙ ap (λ (l : List Answer). Refused 7 ∷ l) (all_refused es)

bytes_stay : (es : List Entry) (t : List ℕ) (tally : Tally) → CallsBytes (map call_of es) → Bytes t → Bytes (tables_after_on (map call_of es) t tally)
bytes_stay es t tally given b = go (well_formed t) refl
  where
    go : (v : Bool) → well_formed t ≡ v → Bytes (tables_after_on (map call_of es) t tally)
    go true h = stays_bytes (map call_of es) t tally given b h
    go false h = subst Bytes (sym (tables_stay t tally h es)) b

module _ (f t : List ℕ) (tally : Tally) (b : Bytes f) (e : file_refusal f ≡ 0) (bt : Bytes t) where
  -- ---- demand 1: entry i's call, on the tables and the tally that the steps before it left
  pub replay_refuses_exactly : (i : ℕ) → i < count_of f
      → RefusesExactly (call_of (entry_of f i)) (steps_on f i t tally).tables (steps_on f i t tally).tally
  replay_refuses_exactly i l =
      let cs : List Call = map call_of (list_of (entry_of f) i) in
      let before : (steps_on f i t tally).tables ≡ tables_after_on cs t tally =
      ap (λ (r : ReplayOn). r.tables) (steps_calls f t tally e i (omega arith)) ∙ (from_performed 1 (list_of (entry_of f) i) t tally).tables in
      refuses_exactly (call_of (entry_of f i)) (steps_on f i t tally).tables (steps_on f i t tally).tally
      (subst Bytes (sym before) (bytes_stay (list_of (entry_of f) i) t tally (first_given f b e i (omega arith)) bt))

  -- ---- demand 2
  -- from tables that row 7 names
  pub replay_of_no_tables : well_formed t ≡ false
      → ((replay_on f t tally).answers ≡ replicate (count_of f) (Refused 7)) × ((replay_on f t tally).tables ≡ t) × ((replay_on f t tally).tally ≡ tally)
  unfolding calls_of
  replay_of_no_tables h =
      let p = replay_performed f t tally e in (
        p.answers ∙ all_refused t tally h (entries_of f) ∙ ap (λ (n : ℕ). replicate n (Refused 7)) (entries_length f),
        p.tables ∙ tables_stay t tally h (entries_of f),
        p.tally ∙ tally_stays t tally h (entries_of f),
      )

  module _ (h : well_formed t ≡ true) where
    -- what the rules answer to the calls, one by one, and the relay and the tally that they lead to
    pub replay_follows_the_rules : ((replay_on f t tally).answers ≡ map answer_in (replies (calls_of f) (relay_of t) tally))
        × ((replay_on f t tally).tables ≡ bytes_of (relay_after (calls_of f) (relay_of t) tally))
        × ((replay_on f t tally).tally ≡ tally_after (calls_of f) (relay_of t) tally)
    replay_follows_the_rules =
        let p = replay_performed f t tally e in
        let q = follows_the_rules (calls_of f) t tally (calls_given f b e) bt h in
        (p.answers ∙ ap (map answer_in) q.answers, p.tables ∙ q.tables, p.tally ∙ q.tally)

    pub replay_counts_history : TallyFits tally → CountsHistory (replies_on (calls_of f) t tally) tally (replay_on f t tally).tally
    unfolding calls_of
    replay_counts_history fits =
        subst (λ (x : Tally). CountsHistory (replies_on (calls_of f) t tally) tally x) (sym (replay_performed f t tally e).tally)
        (counts_history (calls_of f) t tally (none_loads_lem (entries_of f)) (calls_given f b e) bt h fits)

-- ---- demand 3: the file's ports renamed
module _ (m : List ℕ) (one : one_to_one m ≡ true) where
  image_byte : (port : ℕ) → port < 256 → image m port < 256
  image_byte port l = go (ltb port port_count) refl
    where
      go : (v : Bool) → ltb port port_count ≡ v → image m port < 256
      go true t = let p = ltb-true port port_count t in omega (arith, image_port m port p, image_below m one port p)
      go false t = let p = ltb-false port port_count t in omega (arith, image_other m port p)

  each_renamed : (es : List Entry) → ((i : ℕ) → i < length es → RecordableEntry (get_or es i no_entry))
      → (i : ℕ) → i < length (map (rename_entry m) es) → RecordableEntry (get_or (map (rename_entry m) es) i no_entry)
  unfolding rename_entry
  each_renamed [] h i l = absurd (omega arith)
  each_renamed (e ∷ es) h zero l =
      let r = h 0 (omega arith) in
      record { clock = r.clock; port = image_byte e.port r.port; word = r.word; body = r.body }
  each_renamed (e ∷ es) h (suc i) l = each_renamed es (λ j k. h (suc j) (omega arith)) i (omega arith)

  bodies_stay : (es : List Entry) → bodies_of (map (rename_entry m) es) ≡ bodies_of es
  unfolding bodies_of joined rename_entry
  bodies_stay [] = refl
  bodies_stay (e ∷ es) = ap (λ (l : List ℕ). e.body ++ l) (bodies_stay es)

  length_stays : (es : List Entry) → length (file_of (map (rename_entry m) es)) ≡ length (file_of es)
  length_stays es =
      file_size (map (rename_entry m) es)
      ∙ ap (λ (n : ℕ). entry_place head_width n + length (bodies_of (map (rename_entry m) es))) (simp length-map)
      ∙ ap (λ (l : List ℕ). entry_place head_width (length es) + length l) (bodies_stay es)
      ∙ sym (file_size es)

  entry_call_renamed : (es : List Entry) → map call_of (map (rename_entry m) es) ≡ map (rename_call m) (map call_of es)
  unfolding call_of rename_entry rename_call rename_arrival
  entry_call_renamed [] = refl
  entry_call_renamed (e ∷ es) = ap (λ (l : List Call). call_of (rename_entry m e) ∷ l) (entry_call_renamed es)

  module _ (f : List ℕ) (b : Bytes f) (e : file_refusal f ≡ 0) where
    renamed_recordable : Recordable (map (rename_entry m) (entries_of f))
    renamed_recordable =
        let r = recordable f b e in
        record { each = each_renamed (entries_of f) r.each; short = omega (arith, length_stays (entries_of f), r.short) }

    pub renamed_taken : file_refusal (renamed_file m f) ≡ 0
    unfolding renamed_file
    renamed_taken = file_taken (map (rename_entry m) (entries_of f)) renamed_recordable

    pub renamed_entries : entries_of (renamed_file m f) ≡ map (rename_entry m) (entries_of f)
    unfolding renamed_file
    renamed_entries = file_entries (map (rename_entry m) (entries_of f)) renamed_recordable

    pub renamed_length : length (renamed_file m f) ≡ length f
    unfolding renamed_file
    renamed_length = length_stays (entries_of f) ∙ ap length (entries_file f b e)

    -- its calls are the file's calls, renamed: what demand 3 says of any list of calls with these among them, it says of the replay
    pub renamed_calls : calls_of (renamed_file m f) ≡ map (rename_call m) (calls_of f)
    unfolding calls_of
    renamed_calls = ap (map call_of) renamed_entries ∙ entry_call_renamed (entries_of f)

-- ---- answers without outputs, renamed
answers_renamed : (m : List ℕ) (rs : List Reply) → map answer_in (map (rename_reply m) rs) ≡ map (rename_answer m) (map answer_in rs)
unfolding answer_in rename_reply rename_answer
answers_renamed m [] = refl
answers_renamed m (answered a o ∷ rs) = ap (λ (l : List Answer). rename_answer m a ∷ l) (answers_renamed m rs)
answers_renamed m (numbered n ∷ rs) = ap (λ (l : List Answer). Refused n ∷ l) (answers_renamed m rs)
answers_renamed m (told x ∷ rs) = ap (λ (l : List Answer). Refused 0 ∷ l) (answers_renamed m rs)
answers_renamed m (saved r t room ∷ rs) = ap (λ (l : List Answer). Refused 0 ∷ l) (answers_renamed m rs)
answers_renamed m (unsaved n room ∷ rs) = ap (λ (l : List Answer). Refused 0 ∷ l) (answers_renamed m rs)

-- over renamed tables the renamed file gives the answers renamed; the tables after it are the plain replay's renamed, and the tallies are equal
pub record ReplayForgetsNothing (m f start : List ℕ) (counts : Tally) : Type 0 where
  pub answers : (replay_on (renamed_file m f) (renamed_tables m start) counts).answers ≡ map (rename_answer m) (replay_on f start counts).answers
  pub tables : (replay_on (renamed_file m f) (renamed_tables m start) counts).tables ≡ renamed_tables m (replay_on f start counts).tables
  pub tally : (replay_on (renamed_file m f) (renamed_tables m start) counts).tally ≡ (replay_on f start counts).tally

module _ (m f t : List ℕ) (tally : Tally) (one : one_to_one m ≡ true) (b : Bytes f) (e : file_refusal f ≡ 0) (bt : Bytes t) (h : well_formed t ≡ true) where
  abbrev changed : List Call
  changed = map (rename_call m) (calls_of f)

  accepted : perform_on (renumbering m) t tally ≡ record { reply = numbered 0; tables = renamed_tables m t; tally = tally }
  unfolding perform_on of_called
  accepted = ap (λ (c : Called). record { reply = numbered c.refusal; tables = c.tables; tally = tally }) (renamed_by_the_call m t h one)

  pub replay_forgets_nothing : ReplayForgetsNothing m f t tally
  unfolding EachCall replies_on tables_after_on tally_after_on calls_of
  replay_forgets_nothing =
      let plain = replay_performed f t tally e in
      let second = subst (λ (cs : List Call). IsPerformed (replay_on (renamed_file m f) (renamed_tables m t) tally) cs (renamed_tables m t) tally)
      (renamed_calls m one f b e) (replay_performed (renamed_file m f) (renamed_tables m t) tally (renamed_taken m one f b e)) in
      let forgets = forgets_nothing_on [] (calls_of f) tt (calls_given f b e) t tally bt h m one (none_renumbers_lem (entries_of f)) (none_loads_lem (entries_of f)) in
      record {
        answers =
            second.answers
            ∙ ap (λ (o : OutcomeOn). map answer_in (replies_on changed o.tables o.tally)) (sym accepted)
            ∙ ap (λ (l : List Reply). map answer_in (drop 1 l)) forgets.answers
            ∙ answers_renamed m (replies_on (calls_of f) t tally)
            ∙ ap (map (rename_answer m)) (sym plain.answers);
        tables =
            second.tables
            ∙ ap (λ (o : OutcomeOn). tables_after_on changed o.tables o.tally) (sym accepted)
            ∙ forgets.tables
            ∙ ap (renamed_tables m) (sym plain.tables);
        tally =
            second.tally
            ∙ ap (λ (o : OutcomeOn). tally_after_on changed o.tables o.tally) (sym accepted)
            ∙ forgets.tally
            ∙ sym plain.tally;
      }
