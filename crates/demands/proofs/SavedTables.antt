-- Document 02, Wish 4, about lists of calls on the bytes:
--   starts_again, loaded_start, counts_history_since_load
--                  "After a load, demands 2 and 3 start again from the saved tables, last clock included, and the saved tally, which counts on";
--   saved_start    where the file was saved, these are the tables and the tally that were saved, byte for byte;
--   save_renamed   demand 3: "a save among them is of the renamed tables".
use Prim.Native.Nat.{ℕ}
use mathlib.Core.Bool.{true}
use mathlib.Core.List.{List, [], ◌∷◌, ◌++◌}
use mathlib.Core.Path.{◌≡◌, refl, sym, ap, subst, ◌∙◌}
use lib.ListN.{length, get_or, drop}
use borrow.Author.Tests.{eq-eqb}
use Rattle.octets.specs.Bytes.{Bytes}
use Rattle.octets.specs.Index.{◌and◌}
use Rattle.octets.proofs.Choice.{then_true}
use Rattle.rules.specs.Relay.{Relay}
use Rattle.rules.specs.Renumbering.{one_to_one}
use Rattle.rules.specs.Run.{EachCall, Call, renumbering, Reply, numbered, Outcome, of_said, perform, replies, relay_after, tally_after, rename_call, rename_reply, no_call, moves_ports, sets_relay, none_loads}
use Rattle.rules.specs.declared.Tally.{Tally}
use Rattle.rules.proofs.History.{TallyFits, CountsHistory}
use Rattle.rules.proofs.RunRenamed.{late, relay_append, tally_append}
use Rattle.tables.specs.Places.{table_size}
use Rattle.tables.specs.Layout.{relay_of, bytes_of, well_formed}
use Rattle.tables.specs.Called.{Called}
use Rattle.tables.proofs.Whole.{again, ok_relay, shaped_of, back, ok_bytes, bytes_bytes}
use Rattle.saved.specs.File.{file_of}
use Rattle.saved.specs.Save.{save_on}
use Rattle.saved.specs.Load.{load_refusal, held_in}
use Rattle.saved.specs.Format.{said_by, saving, loading, in_room}
use Rattle.rules.specs.Saved.{Said}
use Rattle.saved.proofs.FormatLaws.{said_ok, said_shaped, said_fits, load_refused_alike, file_said}
use Rattle.demands.specs.Given.{CallBytes, CallsBytes}
use Rattle.demands.specs.Bytes.{OutcomeOn, of_called, perform_on, replies_on, tables_after_on, tally_after_on}
use Rattle.demands.proofs.Promised.{save_promised}
use Rattle.demands.proofs.Demand2.{FollowsTheRules, run_on, follows_the_rules, counts_history}
use Rattle.demands.proofs.Demand3.{renamed_tables, both_given, forgets_nothing_on, renamed_by_the_call}

-- ---- the statement
-- what a file holds: tables and tally
abbrev pub tables_in : List ℕ → List ℕ
tables_in file = bytes_of (held_in file).0

abbrev pub tally_in : List ℕ → Tally
tally_in file = (held_in file).1

-- over a list with a load in it, on the tables `start` and the tally `counts`: the load is accepted, and whatever calls stood before it, the later ones reply
-- and leave what they do on the file's tables with the file's tally
pub record StartsAgain (file : List ℕ) (before later : List Call) (start : List ℕ) (counts : Tally) : Type 0 where
  pub answers :
      drop (length before) (replies_on (before ++ (loading file ∷ later)) start counts) ≡ numbered 0 ∷ replies_on later (tables_in file) (tally_in file)
  pub tables : tables_after_on (before ++ (loading file ∷ later)) start counts ≡ tables_after_on later (tables_in file) (tally_in file)
  pub tally : tally_after_on (before ++ (loading file ∷ later)) start counts ≡ tally_after_on later (tables_in file) (tally_in file)

-- ---- a file of bytes that no row refuses
module _ (file : List ℕ) (b : Bytes file) (ok : load_refusal file table_size ≡ 0) where
  abbrev held : Relay
  held = (held_in file).0

  -- its tables and its tally are what the demands' theorems start from, the relay's last clock with them
  pub loaded_start : Bytes (tables_in file) × (well_formed (tables_in file) ≡ true) × (relay_of (tables_in file) ≡ held) × TallyFits (tally_in file)
  loaded_start =
      let s = said_shaped file b ok in
      let o = said_ok file b ok in
      (bytes_bytes held s o, ok_bytes held s o, back held s o, said_fits file b ok)

  accepted : (r : Relay) (t : Tally) → perform (loading file) r t ≡ record { reply = numbered 0; relay = held; tally = tally_in file }
  unfolding perform of_said said_by
  accepted r t = then_true _ _ (eq-eqb _ 0 (load_refused_alike file b ∙ ok))

  load_given : (later : List Call) → CallsBytes later → CallsBytes (loading file ∷ later)
  unfolding EachCall CallBytes
  load_given later l = ((refl, b), l)

  module _ (before later : List Call) (given : CallsBytes before) (l : CallsBytes later) (tables : List ℕ) (tally : Tally) (bytes : Bytes tables)
      (h : well_formed tables ≡ true) where
    pub starts_again : StartsAgain file before later tables tally
    unfolding replies relay_after tally_after
    starts_again =
        let r : Relay = relay_of tables in
        let cs : List Call = loading file ∷ later in
        let taken = accepted (relay_after before r tally) (tally_after before r tally) in
        let all : FollowsTheRules (before ++ cs) tables tally r =
        follows_the_rules (before ++ cs) tables tally (both_given before cs given (load_given later l)) bytes h in
        let rest : FollowsTheRules later (tables_in file) (tally_in file) held =
        run_on later held (tally_in file) l (said_ok file b ok) (said_shaped file b ok) in
        record {
          answers =
              ap (drop (length before)) all.answers
              ∙ late before cs r tally
              ∙ ap (λ (o : Outcome). o.reply ∷ replies later o.relay o.tally) taken
              ∙ ap (λ (x : List Reply). numbered 0 ∷ x) (sym rest.answers);
          tables =
              all.tables
              ∙ ap bytes_of (relay_append before cs r tally ∙ ap (λ (o : Outcome). relay_after later o.relay o.tally) taken)
              ∙ sym rest.tables;
          tally =
              all.tally
              ∙ tally_append before cs r tally
              ∙ ap (λ (o : Outcome). tally_after later o.relay o.tally) taken
              ∙ sym rest.tally;
        }

    -- each counter is the file's, plus the number of such answers among the later replies, modulo 2^32
    pub counts_history_since_load : none_loads later ≡ true
        → CountsHistory (replies_on later (tables_in file) (tally_in file)) (tally_in file) (tally_after_on (before ++ (loading file ∷ later)) tables tally)
    counts_history_since_load none =
        let start = loaded_start in
        subst (CountsHistory (replies_on later (tables_in file) (tally_in file)) (tally_in file)) (sym starts_again.tally)
        (counts_history later (tables_in file) (tally_in file) none l start.0 start.1 start.3)

-- ---- a saved file
module _ (t : List ℕ) (tally : Tally) (b : Bytes t) (h : well_formed t ≡ true) where
  pub saved_start : TallyFits tally → (tables_in (file_of (relay_of t, tally)) ≡ t) × (tally_in (file_of (relay_of t, tally)) ≡ tally)
  unfolding said_by
  saved_start fits =
      let said = file_said (relay_of t) (shaped_of t b h) (ok_relay t h) tally fits in
      (ap (λ (s : Said). bytes_of s.relay) said ∙ again t b h, ap (λ (s : Said). s.tally) said)

  renumbered_call : (m : List ℕ) → one_to_one m ≡ true
      → perform_on (renumbering m) t tally ≡ record { reply = numbered 0; tables = renamed_tables m t; tally = tally }
  unfolding perform_on of_called
  renumbered_call m one =
      ap (λ (c : Called). record { reply = numbered c.refusal; tables = c.tables; tally = tally }) (renamed_by_the_call m t h one)

  -- what a save's reply is, renamed, in the room: the file of the renamed tables, and the room past it as it was
  pub save_renamed : (m room : List ℕ) → one_to_one m ≡ true
      → in_room (rename_reply m (perform_on (saving room) t tally).reply) ≡ save_on (renamed_tables m t) tally room
  unfolding EachCall CallBytes replies_on rename_call no_call moves_ports sets_relay ◌and◌
  save_renamed m room one =
      let forgets = forgets_nothing_on [] (saving room ∷ []) tt (refl, tt) t tally b h m one refl refl in
      let second : List Reply → Reply = λ l. get_or l 1 (numbered 0) in
      ap in_room
      (sym (ap second forgets.answers)
      ∙ ap (λ (o : OutcomeOn). (perform_on (saving room) o.tables o.tally).reply) (renumbered_call m one))
      ∙ save_promised (renamed_tables m t) tally room
