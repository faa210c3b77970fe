-- Demand 2 (docs/scope/00-demands.md), about the bytes: "Reading and writing a packet undo each other, by the published Reticulum layout. Every answer
-- and the tables after it are those that document 01's rules give, for any sequence of calls from a fresh relay."
use Prim.Native.Nat.{ℕ, ◌≤◌}
use mathlib.Core.Bool.{true}
use mathlib.Core.List.{List, [], ◌∷◌}
use mathlib.Core.Path.{◌≡◌, refl, sym, ap, subst, ◌∙◌}
use lib.Dec.{eqb}
use lib.ListN.{length, take}
use borrow.Author.Tests.{eq-eqb}
use Rattle.octets.specs.Bytes.{Bytes}
use Rattle.octets.specs.Part.{patch}
use Rattle.octets.specs.Choice.{◌then◌otherwise◌}
use Rattle.octets.proofs.Choice.{then_true, then_ap}
use Rattle.packet.specs.Read.{payload, longest_packet, reads, reading}
use Rattle.packet.specs.Write.{packet_of, least_output, writing_refusal, writing, read_back}
use Rattle.packet.specs.declared.Parts.{Parts}
use Rattle.packet.proofs.ListLaws.{patched_start}
use Rattle.packet.specs.Write.{Wide}
use Rattle.packet.proofs.WriteLaws.{writing_done}
use Rattle.packet.proofs.RoundTrip.{reading_writing, writing_reading, write_payload}
use Rattle.rules.specs.Relay.{Relay, fresh}
use Rattle.rules.specs.Refusals.{tables_ok}
use Rattle.rules.specs.Calls.{new_tally, Setting, settle}
use Rattle.rules.specs.Saved.{Format, save_refusal, load_refusal as load_refusal_of}
use Rattle.rules.specs.Run.{EachCall, Call, packet, on_tables, asks, saves, loads, Reply, numbered, Outcome, of_judgement, of_setting, of_told, of_said, perform, replies, relay_after, tally_after, none_loads}
use Rattle.rules.specs.declared.Tally.{Tally}
use Rattle.rules.proofs.History.{TallyFits, CountsHistory, history, history_since_fresh}
use Rattle.rules.proofs.Valid.{step_ok, stays_ok, fresh_ok}
use Rattle.tables.specs.Places.{address_width, table_size}
use Rattle.tables.specs.Layout.{relay_of, bytes_of, well_formed}
use Rattle.tables.specs.Shape.{is_bytes, shaped}
use Rattle.tables.proofs.Whole.{again, ok_relay, shaped_of, bytes_length, back, ok_bytes, bytes_bytes}
use Rattle.tables.specs.Called.{Called, written, called}
use Rattle.tables.specs.Asked.{tell_on}
use Rattle.settings.specs.Calls.{fresh_on}
use Rattle.editions.specs.Editions.{Held}
use Rattle.saved.specs.Load.{load_refusal, held_in, load_on}
use Rattle.saved.specs.Format.{said_by, saving}
use Rattle.saved.proofs.FormatLaws.{save_refused_alike, load_refused_alike}
use Rattle.demands.specs.Given.{CallBytes, CallsBytes}
use Rattle.relay.specs.Promise.{in_bytes, packet_on}
use Rattle.demands.specs.Bytes.{OutcomeOn, of_packet, of_called, of_asked, of_save, of_loaded, perform_on, replies_on, tables_after_on, tally_after_on}
use Rattle.demands.specs.Refusals.{refusal, after_seven, refusal_on}
use Rattle.demands.proofs.Shape.{step_shaped, stays_shaped, fresh_shaped}

-- ---- the statement
-- over a list of calls on the tables `start` and the tally `counts`: what each call replies, its output with it, is what the rules reply, the
-- tables at the end are the bytes of the rules' relay, and the tally is the rules'
pub record FollowsTheRules (cs : List Call) (start : List ℕ) (counts : Tally) (r : Relay) : Type 0 where
  pub answers : replies_on cs start counts ≡ replies cs r counts
  pub tables : tables_after_on cs start counts ≡ bytes_of (relay_after cs r counts)
  pub tally : tally_after_on cs start counts ≡ tally_after cs r counts

-- ---- one call on a relay's bytes
module _ (r : Relay) (s : shaped r ≡ true) (ok : tables_ok r ≡ true) where
  pub after_seven_lem : (c : Call) → after_seven c (bytes_of r) ≡ refusal c r
  unfolding after_seven ◌then◌otherwise◌
  after_seven_lem c = rw (ok_bytes r s ok, back r s ok)

  -- they are refused by its rows
  pub refusal_bytes : (c : Call) → CallBytes c → refusal_on c (bytes_of r) ≡ refusal c r
  unfolding CallBytes refusal_on refusal
  refusal_bytes (packet a output) given = after_seven_lem (packet a output)
  refusal_bytes (on_tables c) given = after_seven_lem (on_tables c)
  refusal_bytes (asks q) given = after_seven_lem (asks q)
  refusal_bytes (saves format room) given =
      save_refused_alike r s ok (length room) ∙ ap (λ (f : Format). save_refusal f (length room) r) (sym given)
  refusal_bytes (loads format file) given =
      ap (load_refusal file) (bytes_length r)
      ∙ sym (load_refused_alike file given.1)
      ∙ ap (λ (f : Format). load_refusal_of (f.says file)) (sym given.0)

-- an outcome with the relay's bytes
unfoldable pub outcome_on : Outcome → OutcomeOn
outcome_on o = record { reply = o.reply; tables = bytes_of o.relay; tally = o.tally }

module _ (r : Relay) (s : shaped r ≡ true) (ok : tables_ok r ≡ true) (t : Tally) where
  called_bytes : (call : Relay → Setting) → of_called t (called (bytes_of r) call) ≡ outcome_on (of_setting t (call r))
  unfolding called written of_called of_setting outcome_on ◌then◌otherwise◌
  called_bytes call = rw (ok_bytes r s ok, back r s ok)

  -- a save's refusal and its reply
  saved_bytes : (room : List ℕ) → of_save (bytes_of r) t room ≡ outcome_on (perform (saving room) r t)
  unfolding of_save perform outcome_on
  saved_bytes room = rw (save_refused_alike r s ok (length room), back r s ok)

  -- a load's refusal, and what it sets
  loaded_bytes : (file : List ℕ) → Bytes file → of_loaded (load_on file (bytes_of r) t) ≡ outcome_on (of_said (said_by file) r t)
  unfolding load_on of_loaded of_said said_by outcome_on
  loaded_bytes file b =
      let n : ℕ = load_refusal file table_size in
      let h : Held = held_in file in
      ap (λ (size : ℕ). of_loaded
      (eqb (load_refusal file size) 0 then record { refusal = 0; tables = bytes_of h.0; tally = h.1 } otherwise
      record { refusal = load_refusal file size; tables = bytes_of r; tally = t })) (bytes_length r)
      ∙ then_ap of_loaded (eqb n 0) (record { refusal = 0; tables = bytes_of h.0; tally = h.1 }) (record { refusal = n; tables = bytes_of r; tally = t })
      ∙ sym (then_ap outcome_on (eqb n 0) (record { reply = numbered 0; relay = h.0; tally = h.1 }) (record { reply = numbered n; relay = r; tally = t }))
      ∙ sym (ap (λ (k : ℕ). outcome_on
      (eqb k 0 then record { reply = numbered 0; relay = h.0; tally = h.1 } otherwise record { reply = numbered k; relay = r; tally = t }))
      (load_refused_alike file b))

  pub call_on_lem : (c : Call) → CallBytes c → perform_on c (bytes_of r) t ≡ outcome_on (perform c r t)
  unfolding CallBytes perform_on perform packet_on in_bytes of_packet of_judgement of_asked of_told tell_on outcome_on ◌then◌otherwise◌
  call_on_lem (packet arrival output) given = rw (ok_bytes r s ok, back r s ok)
  call_on_lem (on_tables c) given = called_bytes (settle c)
  call_on_lem (asks q) given = rw (ok_bytes r s ok, back r s ok)
  call_on_lem (saves format room) given = saved_bytes room ∙ ap (λ (f : Format). outcome_on (perform (saves f room) r t)) (sym given)
  call_on_lem (loads format file) given = loaded_bytes file given.1 ∙ ap (λ (f : Format). outcome_on (perform (loads f file) r t)) (sym given.0)

  module _ (c : Call) (b : CallBytes c) where
    pub relay_bytes : relay_of (perform_on c (bytes_of r) t).tables ≡ (perform c r t).relay
    unfolding outcome_on
    relay_bytes =
        ap (λ (o : OutcomeOn). relay_of o.tables) (call_on_lem c b)
        ∙ back (perform c r t).relay (step_shaped c r t b ok s) (step_ok c r t ok)

    pub reply_bytes : (perform_on c (bytes_of r) t).reply ≡ (perform c r t).reply
    unfolding outcome_on
    reply_bytes = ap (λ (o : OutcomeOn). o.reply) (call_on_lem c b)

-- what the rules make a call reply and leave, it replies and leaves on the bytes
pub by_the_rules : (P : Reply → Relay → Type 0) (c : Call) (tables : List ℕ) (tally : Tally) → CallBytes c → Bytes tables → well_formed tables ≡ true
    → P (perform c (relay_of tables) tally).reply (perform c (relay_of tables) tally).relay
    → P (perform_on c tables tally).reply (relay_of (perform_on c tables tally).tables)
by_the_rules P c tables tally given b h holds =
    let r : Relay = relay_of tables in
    let s = shaped_of tables b h in
    let ok = ok_relay tables h in
    subst (λ (x : List ℕ). P (perform_on c x tally).reply (relay_of (perform_on c x tally).tables)) (again tables b h)
    (subst (λ (y : Reply). P y (relay_of (perform_on c (bytes_of r) tally).tables)) (sym (reply_bytes r s ok tally c given))
    (subst (P (perform c r tally).reply) (sym (relay_bytes r s ok tally c given)) holds))

-- ---- lists of calls on a relay's bytes
pub run_on : (cs : List Call) (r : Relay) (t : Tally) → CallsBytes cs → tables_ok r ≡ true → shaped r ≡ true → FollowsTheRules cs (bytes_of r) t r
unfolding EachCall replies_on tables_after_on tally_after_on replies relay_after tally_after outcome_on
run_on [] r t b ok s = record { answers = refl; tables = refl; tally = refl }
run_on (c ∷ cs) r t b ok s =
    let o : Outcome = perform c r t in
    let first : perform_on c (bytes_of r) t ≡ outcome_on o = call_on_lem r s ok t c b.0 in
    let rest : FollowsTheRules cs (bytes_of o.relay) o.tally o.relay =
    run_on cs o.relay o.tally b.1 (step_ok c r t ok) (step_shaped c r t b.0 ok s) in
    record {
      answers =
          ap (λ (x : OutcomeOn). x.reply ∷ replies_on cs x.tables x.tally) first
          ∙ ap (λ (l : List Reply). o.reply ∷ l) rest.answers;
      tables = ap (λ (x : OutcomeOn). tables_after_on cs x.tables x.tally) first ∙ rest.tables;
      tally = ap (λ (x : OutcomeOn). tally_after_on cs x.tables x.tally) first ∙ rest.tally;
    }

-- ---- the theorems
-- from any tables that are well formed, and any tally
pub follows_the_rules : (cs : List Call) (tables : List ℕ) (tally : Tally)
    → CallsBytes cs → Bytes tables → well_formed tables ≡ true → FollowsTheRules cs tables tally (relay_of tables)
follows_the_rules cs tables tally given b h =
    subst (λ (x : List ℕ). FollowsTheRules cs x tally (relay_of tables)) (again tables b h)
    (run_on cs (relay_of tables) tally given (ok_relay tables h) (shaped_of tables b h))

-- from there the tally counts history: each counter is what it was, plus the number of such answers among the calls' replies, modulo 2^32. An accepted load
-- sets the tally, and history goes on from there: `counts_history_since_load`, SavedTables.antt
pub counts_history : (cs : List Call) (tables : List ℕ) (tally : Tally) → none_loads cs ≡ true
    → CallsBytes cs → Bytes tables → well_formed tables ≡ true → TallyFits tally → CountsHistory (replies_on cs tables tally) tally (tally_after_on cs tables tally)
counts_history cs tables tally none given b h fits =
    let follows = follows_the_rules cs tables tally given b h in
    rw (follows.answers, follows.tally) (history cs (relay_of tables) tally none fits)

-- the tables after any list of calls are bytes and well formed: refusal 7 never names them, and the theorem starts anew from them
module _ (cs : List Call) (tables : List ℕ) (tally : Tally) (given : CallsBytes cs) (b : Bytes tables) (h : well_formed tables ≡ true) where
  abbrev last : Relay
  last = relay_after cs (relay_of tables) tally

  last_shaped : shaped last ≡ true
  last_shaped = stays_shaped cs (relay_of tables) tally given (ok_relay tables h) (shaped_of tables b h)

  last_ok : tables_ok last ≡ true
  last_ok = stays_ok cs (relay_of tables) tally (ok_relay tables h)

  pub stays_well_formed : well_formed (tables_after_on cs tables tally) ≡ true
  stays_well_formed = ap well_formed (follows_the_rules cs tables tally given b h).tables ∙ ok_bytes last last_shaped last_ok

  pub stays_bytes : Bytes (tables_after_on cs tables tally)
  stays_bytes = subst Bytes (sym (follows_the_rules cs tables tally given b h).tables) (bytes_bytes last last_shaped last_ok)

-- "for any sequence of calls from a fresh relay": the bytes that `fresh` makes of a buffer of the right size, whatever it held, with tally 0
module _ (buffer own : List ℕ) (size : length buffer ≡ table_size) where
  pub fresh_made : fresh_on buffer own ≡ record { refusal = 0; tables = bytes_of (fresh own) }
  unfolding fresh_on
  fresh_made = then_true _ _ (eq-eqb (length buffer) table_size size)

  pub follows_the_rules_fresh : (cs : List Call) → CallsBytes cs → is_bytes address_width own ≡ true
      → FollowsTheRules cs (fresh_on buffer own).tables new_tally (fresh own)
  follows_the_rules_fresh cs given h =
      subst (λ (x : Called). FollowsTheRules cs x.tables new_tally (fresh own)) (sym fresh_made)
      (run_on cs (fresh own) new_tally given (fresh_ok own) (fresh_shaped own h))

  -- so the tally counts history: each counter is the number of such answers among the calls' replies, modulo 2^32
  pub counts_history_fresh : (cs : List Call) → none_loads cs ≡ true → CallsBytes cs → is_bytes address_width own ≡ true
      → CountsHistory (replies_on cs (fresh_on buffer own).tables new_tally) new_tally (tally_after_on cs (fresh_on buffer own).tables new_tally)
  counts_history_fresh cs none given h =
      let follows = follows_the_rules_fresh cs given h in
      rw (follows.answers, follows.tally) (history_since_fresh cs (fresh own) none)

-- ---- reading and writing a packet undo each other
-- the parts that a reading gives, against any size, written with the payload: the packet stands at the output's start, byte for byte
pub read_then_written : (size : ℕ) (p output : List ℕ) → reads size p ≡ true → least_output ≤ length output
    → writing (reading size p).parts (payload p) output ≡ record { answer = record { refusal = 0; length = length p }; output = patch output 0 p }
read_then_written size p output h room = reading_writing size p h output room

-- what a writing that nothing refuses leaves at the output's start reads as the parts, in type 1 with zeros for the relay address, and as
-- the payload. Wish 11: "Writing keeps to 500, and demand 2's reading back is at any size no smaller than the packet"
module _ (q : Parts) (body output : List ℕ) (wide : Wide q) (z : writing_refusal (length output) q body ≡ 0) where
  start : take (writing q body output).answer.length (writing q body output).output ≡ packet_of q body
  start = rw (writing_done q body output z) (patched_start output (packet_of q body) (length (packet_of q body)) refl)

  pub written_then_read : (size : ℕ) → (writing q body output).answer.length ≤ size → size ≤ longest_packet
      → reading size (take (writing q body output).answer.length (writing q body output).output) ≡ record { refusal = 0; parts = read_back q }
  written_then_read size = writing_reading q body wide size output z

  pub written_payload : payload (take (writing q body output).answer.length (writing q body output).output) ≡ body
  written_payload = ap payload start ∙ write_payload q body wide
