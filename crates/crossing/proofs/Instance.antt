-- What the packet call promises a host, on three calls: an announce that is spread to port 2, the same by port 77, which is refused, and data of type 2
-- that is delivered. All that is returned and left is computed; of the last the number.
use Prim.Native.Nat.{ℕ}
use mathlib.Core.Bool.{true, false}
use mathlib.Core.List.{List, [], ◌∷◌}
use mathlib.Core.Path.{◌≡◌, refl, ap, subst, ◌∙◌}
use lib.ListN.{replicate}
use Rattle.octets.specs.Choice.{◌then◌otherwise◌}
use Rattle.octets.specs.Part.{joined, patch}
use Rattle.packet.specs.Hash.{packet_hash}
use Rattle.rules.specs.Relay.{empty, used, Relay}
use Rattle.rules.specs.View.{view_at}
use Rattle.rules.specs.Tests.{bad_form}
use Rattle.rules.specs.Refusals.{tables_ok}
use Rattle.rules.specs.Answers.{tells_value, in_set, image_set}
use Rattle.rules.specs.Calls.{new_tally, packet_call}
use Rattle.rules.specs.declared.Tally.{Tally}
use Rattle.rules.specs.declared.Verdict.TheVariants.{Deliver, Spread}
use Rattle.rules.specs.declared.Answer.TheVariants.{Refused, Judged}
use Rattle.rules.proofs.Unfolding.{rules}
use Rattle.rules.proofs.Shortcut.{passes, seen_quick, good_plan, good_judge, quick}
use Rattle.rules.proofs.Passed.{of_test}
use Rattle.rules.proofs.Scene.{blank, destination, announce_bytes, data_bytes, arrival}
use Rattle.rules.proofs.Outcomes.{spread_bytes, tally_of, prepared_relay, announced_relay, announce_form, announce_new}
use Rattle.rules.proofs.Sanity.{one_up}
use Rattle.tables.specs.Layout.{bytes_of}
use Rattle.tables.specs.Shape.{is_byte, is_bytes, shaped}
use Rattle.tables.proofs.Whole.{back, ok_bytes}
use Rattle.text.specs.Numerals.{digit, numeral_within, numeral}
use Rattle.text.specs.Words.{spaced}
use Rattle.replaying.specs.Lines.{ports_below, test_word, reason_words}
use Rattle.relay.specs.Promise.{JudgementOn, in_bytes, packet_on}
use Rattle.crossing.specs.Answers.{fields_number, drop_number, verdict_number, answer_number, Answers, rename_ports, rename_number}
use Rattle.crossing.specs.Packets.{payload_place}
use Rattle.crossing.specs.Texts.{words_text, number_words}

-- a packet call on the bytes of a relay is that on the relay
on_relay : (r : Relay) → shaped r ≡ true → tables_ok r ≡ true → (bytes : List ℕ) (port clock : ℕ)
    → packet_on bytes port clock true (bytes_of r) new_tally blank ≡ in_bytes (packet_call (arrival bytes clock port) r new_tally blank)
unfolding packet_on ◌then◌otherwise◌
on_relay r shape ok bytes port clock = rw (ok_bytes r shape ok, back r shape ok)

-- a fresh relay with ports 1 and 2 on
abbrev tables : List ℕ
tables = bytes_of prepared_relay

shape : shaped prepared_relay ≡ true
unfolding rules shaped is_bytes is_byte
shape = refl

ok : tables_ok prepared_relay ≡ true
unfolding rules
ok = refl

spread : packet_on announce_bytes 1 1000 true tables new_tally blank
    ≡ record { answer = Judged (Spread 4 215); tables = bytes_of announced_relay; tally = tally_of 1 0; output = patch blank 0 spread_bytes }
unfolding rules good_plan good_judge of_test in_bytes
spread =
    on_relay prepared_relay shape ok announce_bytes 1 1000
    ∙ ap in_bytes (quick (arrival announce_bytes 1000 1) prepared_relay new_tally blank refl announce_new announce_form)

refused : packet_on announce_bytes 77 1000 true tables new_tally blank ≡ record { answer = Refused 4; tables = tables; tally = new_tally; output = blank }
unfolding rules in_bytes
refused = on_relay prepared_relay shape ok announce_bytes 77 1000

-- the same relay with the data's destination as a local address
abbrev home : Relay
home =
    record {
      own = prepared_relay.own;
      clock = 0;
      rate = prepared_relay.rate;
      ports = prepared_relay.ports;
      locals = used destination ∷ replicate 15 empty;
      paths = prepared_relay.paths;
      links = prepared_relay.links;
      returns = prepared_relay.returns;
      hashes = prepared_relay.hashes;
    }

home_shape : shaped home ≡ true
unfolding rules shaped is_bytes is_byte
home_shape = refl

home_ok : tables_ok home ≡ true
unfolding rules
home_ok = refl

data_form : bad_form data_bytes ≡ false
unfolding rules
data_form = refl

data_new : (view_at 2000 home).remembered (packet_hash data_bytes) ≡ false
unfolding rules passes
data_new = seen_quick 2000 home (packet_hash data_bytes) refl

delivered : (packet_on data_bytes 2 2000 true (bytes_of home) new_tally blank).answer ≡ Judged Deliver
unfolding rules good_plan good_judge of_test in_bytes
delivered =
    ap (λ (o : JudgementOn). o.answer)
    (on_relay home home_shape home_ok data_bytes 2 2000 ∙ ap in_bytes (quick (arrival data_bytes 2000 2) home new_tally blank refl data_new data_form))

-- ---- what the contract then says of what was returned and left
module _ (number : ℕ) (tally : Tally) (after output : List ℕ) where
  -- kind 4, ports {2}, 215 bytes
  pub spread_promised : Answers (packet_on announce_bytes 1 1000 true tables new_tally blank) (payload_place announce_bytes) number tally after output
      → (number ≡ 0xd7_0004_0004) × (tally ≡ tally_of 1 0) × (after ≡ bytes_of announced_relay) × (output ≡ patch blank 0 spread_bytes)
  unfolding answer_number verdict_number fields_number
  spread_promised said = subst (λ (o : JudgementOn). Answers o (payload_place announce_bytes) number tally after output) spread said

  -- kind 0, refusal 4, and all is as it was
  pub refused_promised : Answers (packet_on announce_bytes 77 1000 true tables new_tally blank) (payload_place announce_bytes) number tally after output
      → (number ≡ 0x400) × (tally ≡ new_tally) × (after ≡ tables) × (output ≡ blank)
  unfolding answer_number verdict_number fields_number
  refused_promised said = subst (λ (o : JudgementOn). Answers o (payload_place announce_bytes) number tally after output) refused said

  -- kind 2, and the payload starts at 35
  pub delivered_promised : Answers (packet_on data_bytes 2 2000 true (bytes_of home) new_tally blank) (payload_place data_bytes) number tally after output
      → number ≡ 0x23_0000_0000_0002
  unfolding answer_number verdict_number fields_number payload_place rules
  delivered_promised said = said.0 ∙ ap (answer_number (payload_place data_bytes)) delivered

-- ---- the numbers with every port one up: ports {3}, and the others as they were
pub renamed : (rename_number one_up 0xd7_0004_0004 ≡ 0xd7_0008_0004) × (rename_number one_up 0x400 ≡ 0x400)
    × (rename_number one_up 0x23_0000_0000_0002 ≡ 0x23_0000_0000_0002)
    × (rename_number one_up 0x5_8483_0601 ≡ 0x5_8483_0601)
unfolding rules rename_number rename_ports fields_number image_set in_set
renamed = (refl, refl, refl, refl)

-- ---- a drop, and its text: `drop 6.3 22600`; a number of kind 6, which no call returns, has none
pub drop_told : (drop_number 6 3 22600 ≡ 0x5_8483_0601) × (drop_number 3 4 148 ≡ 0x944_0301)
unfolding drop_number
drop_told = (refl, refl)

pub drop_text : ◌≡◌ {A = List (List ℕ)}
    (words_text (number_words 0x5_8483_0601) ∷
    words_text (number_words 0x944_0301) ∷
    words_text (number_words 0xd7_0004_0004) ∷
    words_text (number_words 0x400) ∷
    words_text (number_words 6) ∷ [])
    ((100 ∷ 114 ∷ 111 ∷ 112 ∷ 32 ∷ 54 ∷ 46 ∷ 51 ∷ 32 ∷ 50 ∷ 50 ∷ 54 ∷ 48 ∷ 48 ∷ []) ∷
    (100 ∷ 114 ∷ 111 ∷ 112 ∷ 32 ∷ 51 ∷ 46 ∷ 52 ∷ 32 ∷ 49 ∷ 52 ∷ 56 ∷ []) ∷
    (115 ∷ 112 ∷ 114 ∷ 101 ∷ 97 ∷ 100 ∷ 32 ∷ 50 ∷ []) ∷
    (114 ∷ 101 ∷ 102 ∷ 117 ∷ 115 ∷ 101 ∷ 100 ∷ 32 ∷ 52 ∷ []) ∷
    [] ∷ [])
unfolding rules words_text number_words reason_words test_word tells_value ports_below in_set spaced joined numeral numeral_within digit
drop_text = refl
