-- Every answer is within bounds: a port among the sixteen, a set of those, a packet of at most 500 bytes, a reason's numbers within their bits, and a
-- refusal that fits a byte.
use Prim.Native.Nat.{ℕ, ◌≤◌, ◌<◌, ◌^◌}
use mathlib.Core.Bool.{Bool, true, false, not, false≢true}
use mathlib.Core.List.{List}
use mathlib.Core.Path.{◌≡◌, refl, sym, subst}
use lib.Dec.{eqb, ltb}
use lib.ListN.{length}
use borrow.Author.Tests.{ltb-true, ltb-false, leb-true}
use Rattle.octets.specs.Index.{◌and◌}
use Rattle.octets.proofs.Index.{and_left}
use Rattle.octets.proofs.Choice.{or_no_right}
use Rattle.octets.proofs.Listed.{all_give, all_first}
use Rattle.packet.specs.Read.{longest_packet, reading_rows, reading_refusal}
use Rattle.numbers.specs.Numbers.{port_count, time_limit}
use Rattle.rules.specs.Relay.{Relay}
use Rattle.rules.specs.View.{View, view_at, port_on, port_size}
use Rattle.rules.specs.Arrival.{Arrival}
use Rattle.rules.specs.Ways.{Way, everywhere, by_path, along_link, by_return, blocked}
use Rattle.rules.specs.Tests.{no_way_on, leaving_port, port_off}
use Rattle.rules.specs.Answers.{port_set}
use Rattle.rules.specs.Outgoing.{spread_ports, spread_packet, outgoing, exceeds}
use Rattle.rules.specs.Judging.{Plan, dropped, delivered, follows, plan, spread_verdict, way_verdict, verdict}
use Rattle.rules.specs.Refusals.{packet_rows, packet_refusal, refusal_by}
use Rattle.rules.specs.Calls.{Judgement, judged, judge, packet_call}
use Rattle.rules.specs.Lengths.{addressed, verdict_length_ok}
use Rattle.rules.specs.declared.Verdict.{Verdict}
use Rattle.rules.specs.declared.Verdict.TheVariants.{Drop, Deliver, Forward, Spread, Kept}
use Rattle.rules.specs.declared.Answer.{Answer}
use Rattle.rules.specs.declared.Answer.TheVariants.{Refused, Judged}
use Rattle.rules.specs.declared.Tally.{Tally}
use Rattle.rules.proofs.Choices.{either}
use Rattle.rules.proofs.Passed.{Passed, passed}
use Rattle.rules.proofs.PortSets.{set_below_lem}
use Rattle.rules.proofs.Lengths.{Sent, sent_way, judged_length}
use Rattle.rules.proofs.Latest.{AtMost}
use Rattle.rules.proofs.ReasonFits.{ReasonFits, expired_most, plan_reason_fits}

-- ---- the bounds
abbrev pub VerdictFits : Verdict → Type 0
VerdictFits (Drop reason) = ReasonFits reason
VerdictFits Deliver = Unit {0}
VerdictFits (Forward port length) = (port < port_count) × (length ≤ longest_packet)
VerdictFits (Spread ports length) = (ports < 2 ^ port_count) × (length ≤ longest_packet)
VerdictFits Kept = Unit {0}

abbrev pub AnswerFits : Answer → Type 0
AnswerFits (Refused number) = number < 256
AnswerFits (Judged verdict) = VerdictFits verdict

-- ---- refusals
refusal_fits : (r : Relay) (a : Arrival) (room : ℕ) → packet_refusal r a room < 256
unfolding refusal_by packet_rows reading_refusal reading_rows all_give ◌and◌
refusal_fits r a room =
    ltb-true _ 256
    (all_first (λ n. ltb n 256) (packet_rows r a.port a.clock room) _ refl
    (all_first (λ n. ltb n 256) (reading_rows (port_size r a.port) a.bytes) 0 refl refl))

-- ---- verdicts: a packet leaves by a port that is on, and is not too long
on_of : (b c : Bool) → b ≡ false → (not b and not c) ≡ false → c ≡ true
unfolding ◌and◌
on_of true c e h = absurd (false≢true (sym e))
on_of false true e h = refl
on_of false false e h = absurd (false≢true (sym h))

module _ (v : View) (a : Arrival) (sixteen : (p : ℕ) → v.on p ≡ true → p < port_count) (past : (d : List ℕ) → AtMost time_limit (v.expired d)) where
  way_fits : (w : Way) → Sent v a w → Passed v a w → verdict_length_ok a.bytes (way_verdict v a w) ≡ true → VerdictFits (way_verdict v a w)
  unfolding way_verdict no_way_on verdict_length_ok port_off exceeds spread_verdict outgoing spread_ports port_set leaving_port
  way_fits (everywhere known) s p h =
      either VerdictFits _ (λ _. tt)
      (λ e. (set_below_lem _ port_count, ltb-false longest_packet (length (spread_packet v.own a.bytes)) (or_no_right _ _ e)))
  way_fits (by_path path) s p h = (sixteen _ (on_of _ _ s.0 p.port_on), leb-true _ longest_packet (and_left _ _ h))
  way_fits (along_link l) s p h = (sixteen _ (on_of _ _ s p.port_on), leb-true _ longest_packet (and_left _ _ h))
  way_fits (by_return t) s p h = (sixteen _ (on_of _ _ s p.port_on), leb-true _ longest_packet (and_left _ _ h))
  way_fits (blocked why) s p h = absurd (false≢true (sym p.some_way))

  plan_fits_lem : verdict_length_ok a.bytes (verdict v a (plan v a)) ≡ true → VerdictFits (verdict v a (plan v a))
  unfolding verdict
  plan_fits_lem = go (plan v a) refl
    where
      go : (todo : Plan) → plan v a ≡ todo → verdict_length_ok a.bytes (verdict v a todo) ≡ true → VerdictFits (verdict v a todo)
      go (dropped reason) e h = plan_reason_fits v a past reason e
      go delivered e h = tt
      go (follows w) e h =
          let (way, p) = passed v a w e in
          way_fits w (subst (Sent v a) way (sent_way v a)) p h

-- ---- answers
on_port : (r : Relay) (p : ℕ) → port_on r p ≡ true → p < port_count
unfolding port_on
on_port r p h = ltb-true p port_count (and_left _ _ h)

-- of every packet call on a relay whose addresses are addresses
pub answer_fits_lem : (a : Arrival) (r : Relay) → addressed r ≡ true → (t : Tally) (output : List ℕ) → AnswerFits (packet_call a r t output).answer
unfolding packet_call judge judged view_at
answer_fits_lem a r wide t output =
    either (λ (j : Judgement). AnswerFits j.answer) (eqb (packet_refusal r a (length output)) 0)
    (λ e. plan_fits_lem (view_at a.clock r) a (on_port r) (expired_most r a (length output) e) (judged_length r wide a (length output) e))
    (λ _. refusal_fits r a (length output))
