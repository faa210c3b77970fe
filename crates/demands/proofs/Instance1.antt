-- Demand 1's theorem on the tables that calls led to: every row refuses a call, 7 on tables of no bytes and 10 on those of a relay without an empty place;
-- then a packet that no row refuses, and what the calls after a refusal reply.
use Prim.Native.Nat.{ℕ, ◌-◌, ◌^◌}
use mathlib.Core.Bool.{true, false}
use mathlib.Core.List.{List, [], ◌∷◌}
use mathlib.Core.Path.{◌≡◌, refl, sym, ap, subst, ◌∙◌}
use lib.Dec.{eqb, lit<}
use lib.ListN.{replicate, take, length-replicate}
use Rattle.octets.specs.Bytes.{Bytes}
use Rattle.octets.specs.Choice.{◌then◌otherwise◌}
use Rattle.octets.proofs.Bytes.{nil_bytes}
use Rattle.rules.specs.Relay.{used, Relay, make_relay}
use Rattle.rules.specs.Calls.{new_tally, rule_of}
use Rattle.rules.specs.Saved.{save_refusal}
use Rattle.rules.specs.Run.{Call, packet, asks, port_setting, rate_setting, adding, removing, renumbering, marking, Reply, numbered}
use Rattle.rules.specs.Questions.{the_last_clock, whether_word_matters}
use Rattle.rules.specs.declared.Tally.{Tally}
use Rattle.rules.proofs.Unfolding.{rules}
use Rattle.rules.proofs.Scene.{own, destination, data_bytes, receipt_bytes, arrival, arrives}
use Rattle.rules.proofs.Outcomes.{prepared_relay}
use Rattle.tables.specs.Layout.{bytes_of, well_formed}
use Rattle.tables.specs.Shape.{is_byte, is_bytes, shaped}
use Rattle.tables.proofs.Whole.{bytes_bytes}
use Rattle.saved.specs.File.{saved_size}
use Rattle.saved.specs.Save.{save_rows, save_refusal as save_refusal_on}
use Rattle.saved.specs.Format.{said_by, saved_format, saving, loading}
use Rattle.saved.proofs.Example.{computing}
use Rattle.demands.specs.Given.{CallBytes}
use Rattle.demands.specs.Bytes.{OutcomeOn, perform_on, replies_on, tables_after_on, tally_after_on}
use Rattle.demands.specs.Refusals.{refusal, after_seven, refusal_on, refusing, is_refusal}
use Rattle.demands.proofs.Demand1.{refuses_exactly}
use Rattle.demands.proofs.Demand2.{refusal_bytes, run_on}
use Rattle.demands.proofs.InstanceCalls.{guest, short_room, before, later, given_before, given_later, said_before, said_later, last_relay, plain_ports, midway_relay, midway_tally, before_run, later_run}
use Rattle.demands.proofs.Instance2.{start, Held, Goes, goes, held}

-- ---- the tables and the tally after the calls before
abbrev tables : List ℕ
tables = tables_after_on before start new_tally

abbrev tally : Tally
tally = tally_after_on before start new_tally

midway : Held midway_relay
midway = held given_before before_run

there : Goes before said_before midway_relay midway_tally
there = goes given_before before_run

tables_are : tables ≡ bytes_of midway_relay
tables_are = there.tables

bytes : Bytes tables
bytes = subst Bytes (sym tables_are) (bytes_bytes midway_relay midway.shape midway.ok)

-- a relay's bytes are refused by its rows
pub row_of : {r : Relay} → Held r → (c : Call) {n : ℕ} → CallBytes c → refusal c r ≡ n → refusal_on c (bytes_of r) ≡ n
row_of {r} h c given e = refusal_bytes r h.shape h.ok c given ∙ e

row_is : (c : Call) {n : ℕ} → CallBytes c → refusal c midway_relay ≡ n → refusal_on c tables ≡ n
row_is c given e = ap (refusal_on c) tables_are ∙ row_of midway c given e

-- ---- refused: the number alone, and nothing is changed
abbrev RefusedOn : List ℕ → Call → ℕ → Type 0
RefusedOn t c n = perform_on c t tally ≡ record { reply = refusing c n; tables = t; tally = tally }

by_row : (t : List ℕ) → Bytes t → (c : Call) (n : ℕ) → refusal_on c t ≡ n → eqb n 0 ≡ false → RefusedOn t c n
by_row t b c n e z =
    (refuses_exactly c t tally b).refused (ap (λ (k : ℕ). eqb k 0) e ∙ z)
    ∙ ap (λ (k : ℕ). record { reply = refusing c k; tables = t; tally = tally }) e

abbrev Refused : Call → ℕ → Type 0
Refused = RefusedOn tables

refused : (c : Call) (n : ℕ) → CallBytes c → refusal c midway_relay ≡ n → eqb n 0 ≡ false → Refused c n
refused c n given e z = by_row tables bytes c n (row_is c given e) z

pub seven : RefusedOn [] (arrives (receipt_bytes 5) 2500 1) 7
unfolding refusal_on after_seven well_formed ◌then◌otherwise◌ rules
seven = by_row [] (λ i. lit< tt) (arrives (receipt_bytes 5) 2500 1) 7 refl refl

pub seven_asked : RefusedOn [] (asks the_last_clock) 7
unfolding refusal_on after_seven well_formed ◌then◌otherwise◌ rules
seven_asked = by_row [] (λ i. lit< tt) (asks the_last_clock) 7 refl refl

-- sixteen local addresses
abbrev full_relay : Relay
full_relay =
    make_relay own 0 prepared_relay.rate prepared_relay.ports (replicate 16 (used guest))
    prepared_relay.paths prepared_relay.links prepared_relay.returns prepared_relay.hashes

full : Held full_relay
unfolding rules shaped is_bytes is_byte
full = record { shape = refl; ok = refl }

pub ten : RefusedOn (bytes_of full_relay) (adding own) 10
unfolding CallBytes rule_of is_bytes is_byte refusal rules
ten = by_row (bytes_of full_relay) (bytes_bytes full_relay full.shape full.ok) (adding own) 10 (row_of full (adding own) refl refl) refl

short_room_lem : refusal (saving short_room) midway_relay ≡ 25
unfolding refusal save_refusal rules
short_room_lem =
    ap (λ (n : ℕ). save_refusal saved_format n midway_relay) (length-replicate {A = ℕ} (saved_size - 1) 0xee)

-- row 7 is a save's too
pub seven_saved : RefusedOn [] (saving []) 7
unfolding refusal_on save_refusal_on save_rows well_formed ◌then◌otherwise◌ rules
seven_saved = by_row [] nil_bytes (saving []) 7 refl refl

pub rows : Refused (packet (arrival (receipt_bytes 5) 2500 1) (replicate 499 0xee)) 6
    × Refused (arrives (receipt_bytes 5) 2500 77) 4
    × Refused (arrives (receipt_bytes 5) 1999 1) 5
    × Refused (arrives (take 18 (receipt_bytes 5)) 2500 1) 1
    × Refused (arrives (replicate 501 0x00) 2500 1) 2
    × Refused (arrives (replicate 19 0x80) 2500 1) 3
    × Refused (arrives (take 34 data_bytes) 2500 1) 1
    × Refused (port_setting 16 true 0 500) 9
    × Refused (port_setting 0 true 3 500) 9
    × Refused (port_setting 0 true 0 18) 9
    × Refused (port_setting 0 true 0 501) 9
    × Refused (rate_setting 86401 0 0) 9
    × Refused (rate_setting 0 255 0) 9
    × Refused (rate_setting 0 0 604801) 9
    × Refused (adding guest) 11
    × Refused (removing own) 11
    × Refused (renumbering []) 8
    × Refused (asks (whether_word_matters (receipt_bytes 5) 1 2500 499)) 6
    × Refused (asks (whether_word_matters (receipt_bytes 5) 77 2500 500)) 4
    × Refused (asks (whether_word_matters (take 34 data_bytes) 1 2500 500)) 1
    × Refused (saving short_room) 25
    × Refused (loading []) 20
unfolding CallBytes rule_of is_bytes is_byte refusal rules said_by computing
rows = (
  refused _ 6 refl refl refl,
  refused _ 4 refl refl refl,
  refused _ 5 refl refl refl,
  refused _ 1 refl refl refl,
  refused _ 2 refl refl refl,
  refused _ 3 refl refl refl,
  refused _ 1 refl refl refl,
  refused _ 9 refl refl refl,
  refused _ 9 refl refl refl,
  refused _ 9 refl refl refl,
  refused _ 9 refl refl refl,
  refused _ 9 refl refl refl,
  refused _ 9 refl refl refl,
  refused _ 9 refl refl refl,
  refused _ 11 refl refl refl,
  refused _ 11 refl refl refl,
  refused _ 8 refl refl refl,
  refused _ 6 tt refl refl,
  refused _ 4 tt refl refl,
  refused _ 1 tt refl refl,
  refused _ 25 refl short_room_lem refl,
  refused _ 20 (refl, nil_bytes) refl refl,
)

-- a mark: the guest has no path, and the destination's is live until 22,600
pub mark_rows : Refused (marking destination 1999) 5
    × Refused (marking destination (2 ^ 40)) 5
    × Refused (marking guest 1999) 5
    × Refused (marking guest 2500) 12
    × Refused (marking destination 22600) 12
unfolding CallBytes rule_of is_bytes is_byte refusal rules
mark_rows = (
  refused (marking destination 1999) 5 refl refl refl,
  refused (marking destination (2 ^ 40)) 5 refl refl refl,
  refused (marking guest 1999) 5 refl refl refl,
  refused (marking guest 2500) 12 refl refl refl,
  refused (marking destination 22600) 12 refl refl refl,
)

-- ---- no row: no refusal
pub accepted : is_refusal (perform_on (arrives (receipt_bytes 5) 2500 1) tables tally).reply ≡ false
unfolding CallBytes is_bytes is_byte refusal rules
accepted =
    (refuses_exactly (arrives (receipt_bytes 5) 2500 1) tables tally bytes).accepted
    (ap (λ (n : ℕ). eqb n 0) (row_is (arrives (receipt_bytes 5) 2500 1) refl refl))

-- ---- after a refusal: the calls later reply as they would without it
abbrev end : Relay
end = last_relay plain_ports 1

later_said : replies_on later tables tally ≡ said_later 2 1 end
later_said =
    ap (λ (t : List ℕ). replies_on later t tally) tables_are
    ∙ ap (replies_on later (bytes_of midway_relay)) there.tally
    ∙ (run_on later midway_relay midway_tally (given_later 1 5) midway.ok midway.shape).answers
    ∙ later_run.answers

pub after_refusal : replies_on (adding guest ∷ later) tables tally ≡ numbered 11 ∷ said_later 2 1 end
unfolding CallBytes rule_of is_bytes is_byte replies_on refusal refusing rules
after_refusal =
    ap (λ (o : OutcomeOn). o.reply ∷ replies_on later o.tables o.tally) (refused (adding guest) 11 refl refl refl)
    ∙ ap (λ (l : List Reply). numbered 11 ∷ l) later_said
