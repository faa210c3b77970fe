-- Wish 9's theorem on the list of calls of InstanceCalls, in which a packet is spread, one forwarded as long as it came in and one sixteen bytes shorter,
-- others dropped and refused; and on an announce that is kept for its length. What other lengths would have given is computed beside it.
use Prim.Native.Nat.{ℕ}
use mathlib.Core.Bool.{Bool, true, false}
use mathlib.Core.List.{List, [], ◌∷◌, ◌++◌}
use mathlib.Core.Path.{◌≡◌, refl, sym, ap, ◌∙◌}
use lib.ListN.{length, replicate}
use Rattle.octets.specs.Index.{◌and◌}
use Rattle.octets.specs.Choice.{◌or◌}
use Rattle.packet.specs.Header.{packet_kind}
use Rattle.packet.specs.Hash.{packet_hash}
use Rattle.rules.specs.Relay.{Relay}
use Rattle.rules.specs.View.{view_at}
use Rattle.rules.specs.Refusals.{all, table_ok}
use Rattle.rules.specs.Tests.{bad_form}
use Rattle.rules.specs.Calls.{new_tally}
use Rattle.rules.specs.Run.{EachCall, Call, packet, on_tables, asks, saves, loads, Reply, answered, Outcome}
use Rattle.rules.specs.Lengths.{forwarded_length, grown_length, verdict_length_ok, answer_length_ok}
use Rattle.rules.specs.declared.Verdict.{Verdict}
use Rattle.rules.specs.declared.Verdict.TheVariants.{Drop, Deliver, Forward, Spread, Kept}
use Rattle.rules.specs.declared.Answer.{Answer}
use Rattle.rules.specs.declared.Answer.TheVariants.{Refused, Judged}
use Rattle.rules.proofs.Unfolding.{rules, hashing}
use Rattle.rules.proofs.Shortcut.{passes, seen_quick, good_plan, good_judge}
use Rattle.rules.proofs.Passed.{of_test}
use Rattle.rules.proofs.Scene.{blank, announce_body, destination, announce_bytes, data_bytes, receipt_bytes, arrives}
use Rattle.rules.proofs.Outcomes.{judged_at}
use Rattle.tables.specs.Layout.{bytes_of}
use Rattle.tables.specs.Shape.{is_byte, is_bytes}
use Rattle.demands.specs.Given.{CallBytes, CallsBytes}
use Rattle.demands.specs.Bytes.{replies_on}
use Rattle.demands.specs.Replays.{answer_in}
use Rattle.demands.specs.Lengths.{reply_length_ok, lengths_ok}
use Rattle.demands.proofs.Demand2.{run_on}
use Rattle.demands.proofs.Lengths.{lengths_on_calls}
use Rattle.demands.proofs.InstanceCalls.{before, later, said_before, said_later, last_relay, plain_ports, last_tally, plain_run}
use Rattle.demands.proofs.Instance2.{start, given, plain, Held, held}

-- ---- the theorem on the list
pub said_so : lengths_ok (before ++ later) (said_before ++ said_later 2 1 (last_relay plain_ports 1)) ≡ true
said_so = ap (lengths_ok (before ++ later)) (sym plain.answers) ∙ lengths_on_calls (before ++ later) start new_tally

-- of each packet that left, how long it came in and how long it left
abbrev left_by : List ℕ → Answer → List (ℕ × ℕ)
left_by p (Refused number) = []
left_by p (Judged (Drop reason)) = []
left_by p (Judged Deliver) = []
left_by p (Judged (Forward port n)) = (length p, n) ∷ []
left_by p (Judged (Spread ports n)) = (length p, n) ∷ []
left_by p (Judged Kept) = []

abbrev left : List Call → List Reply → List (ℕ × ℕ)
left [] said = []
left (c ∷ cs) [] = []
left (packet a output ∷ cs) (reply ∷ said) = left_by a.bytes (answer_in reply) ++ left cs said
left (on_tables c ∷ cs) (reply ∷ said) = left cs said
left (asks q ∷ cs) (reply ∷ said) = left cs said
left (saves format room ∷ cs) (reply ∷ said) = left cs said
left (loads format file ∷ cs) (reply ∷ said) = left cs said

-- the announce, data on the last hop, and its receipt
pub three_left : left (before ++ later) (replies_on (before ++ later) start new_tally) ≡ (199, 215) ∷ (55, 39) ∷ (83, 83) ∷ []
unfolding answer_in
three_left = ap (left (before ++ later)) plain.answers

-- ---- an announce of 485 bytes, emitted a second later: spread it would have 501
abbrev long_bytes : List ℕ
long_bytes = 0x21 ∷ 0 ∷ (destination ++ (0x00 ∷ (announce_body (0x00 ∷ 0x65 ∷ 0x53 ∷ 0xf1 ∷ 0x01 ∷ []) ++ replicate 286 0x44)))

abbrev last_one : Relay
last_one = last_relay plain_ports 1

abbrev long : List Call
long = arrives long_bytes 3000 1 ∷ []

long_given : CallsBytes long
unfolding EachCall CallBytes is_bytes is_byte table_ok all ◌and◌
long_given = (refl, tt)

long_form : bad_form long_bytes ≡ false
unfolding rules hashing
long_form = refl

long_new : (view_at 3000 last_one).remembered (packet_hash long_bytes) ≡ false
unfolding rules passes
long_new = seen_quick 3000 last_one (packet_hash long_bytes) refl

pub long_kept : replies_on long (bytes_of last_one) last_tally ≡ answered (Judged Kept) blank ∷ []
unfolding rules good_plan good_judge of_test
long_kept =
    let h : Held last_one = held given plain_run in
    (run_on long last_one last_tally long_given h.ok h.shape).answers
    ∙ ap (λ (o : Outcome). o.reply ∷ []) (judged_at long_bytes 3000 last_one last_tally long_new long_form 1 refl)

pub kept_said : lengths_ok long (answered (Judged Kept) blank ∷ []) ≡ true
kept_said = ap (lengths_ok long) (sym long_kept) ∙ lengths_on_calls long (bytes_of last_one) last_tally

-- ---- other lengths are told apart
abbrev answers_fit : List ℕ → Verdict → Bool
answers_fit p verdict = lengths_ok (arrives p 3000 1 ∷ []) (answered (Judged verdict) blank ∷ [])

-- data a byte shorter, or grown; the receipt spread; the announce a byte longer, or forwarded; the long one spread
pub others_not : (answers_fit data_bytes (Forward 1 54) ≡ false)
    × (answers_fit data_bytes (Forward 1 71) ≡ false)
    × (answers_fit (receipt_bytes 5) (Spread 2 83) ≡ false)
    × (answers_fit announce_bytes (Spread 2 200) ≡ false)
    × (answers_fit announce_bytes (Forward 1 199) ≡ false)
    × (answers_fit long_bytes (Spread 2 501) ≡ false)
unfolding lengths_ok reply_length_ok answer_length_ok verdict_length_ok forwarded_length grown_length answer_in packet_kind ◌and◌ ◌or◌
others_not = (refl, refl, refl, refl, refl, refl)
