-- Demand 2's theorems on one list of calls, on the bytes that `fresh` makes of a buffer; and on one packet read and one written.
use Prim.Native.Nat.{ℕ, ◌+◌, ◌%◌, ◌^◌}
use mathlib.Core.Bool.{true}
use native.Mathlib.Omega.{arith}
use mathlib.Core.List.{List, [], ◌∷◌, ◌++◌}
use mathlib.Core.Path.{◌≡◌, refl, sym, ap, subst, ◌∙◌}
use lib.Dec.{lit≤}
use lib.ListN.{length, take, replicate, length-replicate}
use Rattle.octets.specs.Index.{◌and◌}
use Rattle.octets.specs.Choice.{◌then◌otherwise◌}
use Rattle.packet.specs.Read.{payload, longest_packet, no_address, reading}
use Rattle.packet.specs.Write.{Writing, writing, writing_rows, writing_refusal, read_back, Wide}
use Rattle.packet.specs.declared.Parts.{Parts}
use Rattle.rules.specs.Relay.{Relay, fresh}
use Rattle.rules.specs.Refusals.{all, table_ok, tables_ok}
use Rattle.rules.specs.Calls.{new_tally}
use Rattle.rules.specs.Run.{EachCall, Call, Reply, Outcome, no_call, sets_relay}
use Rattle.rules.specs.declared.Tally.{Tally}
use Rattle.rules.proofs.Unfolding.{lists, layout, rules}
use Rattle.rules.proofs.Shortcut.{good_plan, good_judge}
use Rattle.rules.proofs.Passed.{of_test}
use Rattle.rules.proofs.History.{number, is_any, is_drop, is_delivery, is_forward, is_spread, is_kept}
use Rattle.rules.proofs.Valid.{stays_ok, fresh_ok}
use Rattle.rules.proofs.Scene.{own, blank, announce_bytes, destination, data_body, data_bytes, data_key, receipt_bytes, arrives}
use Rattle.rules.proofs.Outcomes.{spreads, spread_bytes, prepared_relay, judged_at, announce_form, announce_new}
use Rattle.tables.specs.Places.{address_width, table_size}
use Rattle.tables.specs.Layout.{bytes_of}
use Rattle.tables.specs.Shape.{is_byte, is_bytes, shaped}
use Rattle.tables.proofs.Whole.{ok_bytes, bytes_bytes}
use Rattle.settings.specs.Calls.{fresh_on}
use Rattle.demands.specs.Given.{CallBytes, CallsBytes}
use Rattle.demands.specs.Bytes.{replies_on, tables_after_on, tally_after_on}
use Rattle.demands.proofs.Shape.{stays_shaped, fresh_shaped}
use Rattle.demands.proofs.Demand2.{run_on, counts_history, follows_the_rules_fresh, counts_history_fresh, read_then_written, written_then_read, written_payload}
use Rattle.demands.proofs.Demand3.{both_given}
use Rattle.demands.proofs.InstanceCalls.{before, later, given_before, given_later, none_load, Runs, said_before, said_later, last_relay, plain_ports, last_tally, plain_run}

-- ---- a fresh relay, made of a buffer that held something else
abbrev pub buffer : List ℕ
buffer = replicate table_size 0xab

pub size : length buffer ≡ table_size
size = length-replicate {A = ℕ} table_size 0xab

pub sixteen : is_bytes address_width own ≡ true
unfolding is_bytes is_byte table_ok all ◌and◌
sixteen = refl

abbrev pub start : List ℕ
start = (fresh_on buffer own).tables

-- what calls on it reply and leave
pub record Goes (cs : List Call) (said : List Reply) (after : Relay) (counts : Tally) : Type 0 where
  pub answers : replies_on cs start new_tally ≡ said
  pub tables : tables_after_on cs start new_tally ≡ bytes_of after
  pub tally : tally_after_on cs start new_tally ≡ counts

-- ---- follows_the_rules_fresh
pub goes : {cs : List Call} {said : List Reply} {after : Relay} {counts : Tally}
    → CallsBytes cs → Runs cs (fresh own) new_tally said after counts → Goes cs said after counts
goes {cs} given run =
    let follows = follows_the_rules_fresh buffer own size cs given sixteen in
    record {
      answers = follows.answers ∙ run.answers;
      tables = follows.tables ∙ ap bytes_of run.relay;
      tally = follows.tally ∙ run.tally;
    }

-- the relay that they lead to is one that tables hold
pub record Held (r : Relay) : Type 0 where
  pub shape : shaped r ≡ true
  pub ok : tables_ok r ≡ true

pub held : {cs : List Call} {said : List Reply} {after : Relay} {counts : Tally}
    → CallsBytes cs → Runs cs (fresh own) new_tally said after counts → Held after
held {cs} given run =
    subst Held run.relay
    (record {
      shape = stays_shaped cs (fresh own) new_tally given (fresh_ok own) (fresh_shaped own sixteen);
      ok = stays_ok cs (fresh own) new_tally (fresh_ok own);
    })

pub given : CallsBytes (before ++ later)
given = both_given before later given_before (given_later 1 5)

pub plain : Goes (before ++ later) (said_before ++ said_later 2 1 (last_relay plain_ports 1)) (last_relay plain_ports 1) last_tally
plain = goes given plain_run

-- ---- counts_history_fresh: five of the replies are verdicts
abbrev last : Tally
last = tally_after_on (before ++ later) start new_tally

abbrev CountersAre : (total dropped delivered forwarded spread kept : ℕ) → Type 0
CountersAre total dropped delivered forwarded spread kept =
    (last.total ≡ total)
    × (last.dropped ≡ dropped)
    × (last.delivered ≡ delivered)
    × (last.forwarded ≡ forwarded)
    × (last.spread ≡ spread)
    × (last.kept ≡ kept)

pub counted : CountersAre 5 2 0 2 1 0
unfolding number new_tally ◌then◌otherwise◌
counted =
    let history = counts_history_fresh buffer own size (before ++ later) none_load given sixteen in (
      history.total ∙ ap (λ (x : List Reply). (0 + number is_any x) % 2 ^ 32) plain.answers,
      history.dropped ∙ ap (λ (x : List Reply). (0 + number is_drop x) % 2 ^ 32) plain.answers,
      history.delivered ∙ ap (λ (x : List Reply). (0 + number is_delivery x) % 2 ^ 32) plain.answers,
      history.forwarded ∙ ap (λ (x : List Reply). (0 + number is_forward x) % 2 ^ 32) plain.answers,
      history.spread ∙ ap (λ (x : List Reply). (0 + number is_spread x) % 2 ^ 32) plain.answers,
      history.kept ∙ ap (λ (x : List Reply). (0 + number is_kept x) % 2 ^ 32) plain.answers,
    )

-- ---- counts_history: from the greatest counters an announce goes on to zeros, in those that count it
abbrev greatest : Tally
greatest =
    record {
      total = 0xffff_ffff;
      dropped = 0xffff_ffff;
      delivered = 0xffff_ffff;
      forwarded = 0xffff_ffff;
      spread = 0xffff_ffff;
      kept = 0xffff_ffff;
    }

abbrev pub announce : List Call
announce = arrives announce_bytes 1000 1 ∷ []

pub announce_given : CallsBytes announce
unfolding EachCall CallBytes is_bytes is_byte table_ok all ◌and◌
announce_given = (refl, tt)

pub prepared_held : Held prepared_relay
unfolding rules shaped is_bytes is_byte
prepared_held = record { shape = refl; ok = refl }

pub announce_said : (t : Tally) → replies_on announce (bytes_of prepared_relay) t ≡ spreads spread_bytes 2 ∷ []
unfolding rules good_plan good_judge of_test
announce_said t =
    (run_on announce prepared_relay t announce_given prepared_held.ok prepared_held.shape).answers
    ∙ ap (λ (o : Outcome). o.reply ∷ []) (judged_at announce_bytes 1000 prepared_relay t announce_new announce_form 1 refl)

abbrev wrapped : Tally
wrapped = tally_after_on announce (bytes_of prepared_relay) greatest

pub counted_on : (wrapped.total ≡ 0) × (wrapped.spread ≡ 0) × (wrapped.dropped ≡ 0xffff_ffff)
unfolding number no_call sets_relay ◌and◌ ◌then◌otherwise◌
counted_on =
    let h = prepared_held in
    let tables = ok_bytes prepared_relay h.shape h.ok in
    let history = counts_history announce _ greatest refl announce_given (bytes_bytes prepared_relay h.shape h.ok) tables (omega arith) in (
      history.total ∙ ap (λ (x : List Reply). (0xffff_ffff + number is_any x) % 2 ^ 32) (announce_said greatest),
      history.spread ∙ ap (λ (x : List Reply). (0xffff_ffff + number is_spread x) % 2 ^ 32) (announce_said greatest),
      history.dropped ∙ ap (λ (x : List Reply). (0xffff_ffff + number is_drop x) % 2 ^ 32) (announce_said greatest),
    )

-- ---- read_then_written: data of type 2
abbrev data_parts : Parts
data_parts = record { header = 0x50; hops = 3; relay = own; destination = destination; context = 0x00 }

data_read : (reading longest_packet data_bytes).parts ≡ data_parts
unfolding lists layout
data_read = refl

pub data_written : writing data_parts data_body blank ≡ record { answer = record { refusal = 0; length = 55 }; output = data_bytes ++ replicate 445 0xee }
unfolding lists layout
data_written = ap (λ (q : Parts). writing q data_body blank) (sym data_read) ∙ read_then_written longest_packet data_bytes blank refl (lit≤ tt)

-- ---- written_then_read: a receipt of type 1, whose relay address is not written
abbrev receipt_parts : List ℕ → Parts
receipt_parts relay = record { header = 0x03; hops = 5; relay = relay; destination = data_key; context = 0x00 }

abbrev receipt_body : List ℕ
receipt_body = replicate 64 0x77

wide : Wide (receipt_parts own)
wide = record { relay = refl; destination = refl }

abbrev written_receipt : List ℕ
written_receipt = receipt_bytes 5 ++ replicate 417 0xee

receipt_written : writing (receipt_parts own) receipt_body blank ≡ record { answer = record { refusal = 0; length = 83 }; output = written_receipt }
unfolding lists layout writing writing_rows writing_refusal
receipt_written = refl

-- at the least size that takes it
pub receipt_read : reading 83 (take 83 written_receipt) ≡ record { refusal = 0; parts = receipt_parts no_address }
unfolding lists layout writing writing_rows writing_refusal read_back
receipt_read =
    ap (λ (w : Writing). reading 83 (take w.answer.length w.output)) (sym receipt_written)
    ∙ written_then_read (receipt_parts own) receipt_body blank wide refl 83 (lit≤ tt) (lit≤ tt)

-- .. and at one byte less it is too long
pub receipt_too_long : (reading 82 (take 83 written_receipt)).refusal ≡ 2
unfolding lists layout
receipt_too_long = refl

pub receipt_payload : payload (take 83 written_receipt) ≡ receipt_body
unfolding lists layout writing_rows writing_refusal
receipt_payload =
    ap (λ (w : Writing). payload (take w.answer.length w.output)) (sym receipt_written)
    ∙ written_payload (receipt_parts own) receipt_body blank wide refl
