-- The promise, from what refusing and acting give.
use Rattle.std.proofs.Common.{◌≡◌, ℕ, ◌<◌, Bool, true, false, List, length, sym, refl, ap, ◌∙◌, subst, ne_eqb}
use Rattle.octets.specs.Bytes.{Bytes}
use Rattle.octets.specs.Choice.{◌then◌otherwise◌}
use Rattle.numbers.specs.Numbers.{port_count, clock_limit}
use Rattle.rules.specs.Arrival.{Arrival}
use Rattle.rules.specs.Refusals.{packet_refusal}
use Rattle.rules.specs.Calls.{counted, judged, judge, packet_call}
use Rattle.rules.specs.declared.Answer.TheVariants.{Refused, Judged}
use Rattle.rules.specs.declared.Tally.{Tally}
use Rattle.rules.specs.declared.Verdict.{Verdict}
use Rattle.rules.specs.declared.Verdict.TheVariants.{Drop}
use Rattle.rules.specs.declared.Reason.TheVariants.{NotOurs}
use Rattle.rules.specs.View.{view_at}
use Rattle.rules.specs.Tests.{not_ours}
use Rattle.rules.specs.Judging.{plan, early_tests}
use Rattle.octets.specs.Listed.{first_of}
use Rattle.tables.specs.Layout.{relay_of, well_formed}
use Rattle.tables.proofs.Whole.{again}
use Rattle.plan.specs.declared.Arrived.{Arrived}
use Rattle.plan.specs.declared.Decision.{Decision}
use Rattle.plan.specs.declared.Decision.TheVariants as decided_as
use Rattle.plan.specs.Decided.{arrival_of, decided, decision}
use Rattle.update.specs.Written.{clock_written}
use Rattle.act.specs.Stored.{stamped}
use Rattle.act.proofs.Stays.{drop_left, drop_stays}
use Rattle.act.proofs.StampLaws.{remembered_by, forgotten, stamp_left}
use Rattle.act.specs.Acted.{AcceptedOn, verdict_on, tables_on, remembered_on, output_on}
use Rattle.relay.specs.Refusal.{packet_refusal_on}
use Rattle.relay.proofs.RefusalLaws.{accepted_formed, accepted_by_rules, accepted_judge, accepted_port, accepted_clock}
use Rattle.relay.specs.Promise.{JudgementOn, Promises, in_bytes, packet_on}

module _ (packet : List ℕ) (port clock : ℕ) (signed : Bool) (t : List ℕ) (tally : Tally) (output : List ℕ) where
  abbrev a : Arrival
  a = record { bytes = packet; port = port; clock = clock; signed = signed }

  abbrev number : ℕ
  number = packet_refusal_on packet port clock t (length output)

  abbrev promise : JudgementOn
  promise = packet_on packet port clock signed t tally output

  promised : {x : JudgementOn} → x ≡ promise → Promises promise x.answer x.tally x.tables x.output
  promised e = (
    ap (λ (y : JudgementOn). y.answer) e,
    ap (λ (y : JudgementOn). y.tally) e,
    ap (λ (y : JudgementOn). y.tables) e,
    ap (λ (y : JudgementOn). y.output) e,
  )

  by_rules : well_formed t ≡ true → number ≡ packet_refusal (relay_of t) a (length output)
  unfolding packet_refusal_on ◌then◌otherwise◌
  by_rules h = rw h

  -- ---- a refusal changes nothing
  refused : Bytes t → (n : ℕ) → n ≡ number → (n ≡ 0 → ⊥) → record { answer = Refused n; tables = t; tally = tally; output = output } ≡ promise
  unfolding packet_on packet_refusal_on in_bytes packet_call ◌then◌otherwise◌
  refused b n q some = go (well_formed t) refl
    where
      go : (h : Bool) → well_formed t ≡ h → record { answer = Refused n; tables = t; tally = tally; output = output } ≡ promise
      go false h = let e : n ≡ 7 = q ∙ rw h in rw (h, e)
      go true h =
          let e : n ≡ packet_refusal (relay_of t) a (length output) = q ∙ by_rules h in
          rw (h, ne_eqb (packet_refusal (relay_of t) a (length output)) 0 (λ z. some (e ∙ z)), ← e, again t b h)

  pub refused_promised : Bytes t → (n : ℕ) → n ≡ number → (n ≡ 0 → ⊥) → Promises promise (Refused n) tally t output
  refused_promised b n q some = promised (refused b n q some)

  -- ---- an accepted packet
  module _ (none : number ≡ 0) (m : Arrived) (same_port : m.port ≡ port) (same-clock : m.clock ≡ clock) (same-signed : m.signed ≡ signed) where
    same_arrival : arrival_of packet m ≡ a
    same_arrival = rw (same_port, same-clock, same-signed)

    pub accepted : AcceptedOn packet m t
    accepted =
        let judge = accepted_judge packet port clock t (length output) none in
        record {
          formed = judge.formed;
          readable = judge.readable;
          port = subst (λ (n : ℕ). n < port_count) (sym same_port) (accepted_port packet port clock t (length output) none);
          clock = subst (λ (n : ℕ). n < clock_limit) (sym same-clock) (accepted_clock packet port clock t (length output) none);
        }

    judged_promise : (x : Verdict) (u o : List ℕ) → x ≡ verdict_on packet m t → u ≡ tables_on packet m t → o ≡ output_on packet m t output
        → record { answer = Judged x; tables = u; tally = counted x tally; output = o } ≡ promise
    unfolding packet_on in_bytes packet_call judge judged verdict_on tables_on output_on ◌then◌otherwise◌
    judged_promise x u o q1 q2 q3 =
        let formed = accepted_formed packet port clock t (length output) none in
        let passes = accepted_by_rules packet port clock t (length output) none in
        rw (q1, q2, q3, same_arrival, same-clock, formed, passes)

    pub judged_promised : (x : Verdict) (after : Tally) (u o : List ℕ) → x ≡ verdict_on packet m t → u ≡ tables_on packet m t → o ≡ output_on packet m t output
        → after ≡ counted x tally → Promises promise (Judged x) after u o
    judged_promised x after u o q1 q2 q3 q4 =
        let e = promised (judged_promise x u o q1 q2 q3) in
        (e.0, q4 ∙ e.1, e.2, e.3)

    -- ---- test 1's drop: the clock alone is written
    pub not_ours_promised : Bytes t → not_ours (view_at m.clock (relay_of t)) (arrival_of packet m) ≡ true → (after : Tally) (u : List ℕ)
        → u ≡ clock_written t m.clock → after ≡ counted (Drop NotOurs) tally → Promises promise (Judged (Drop NotOurs)) after u output
    unfolding decision decided plan early_tests first_of stamped ◌then◌otherwise◌
    not_ours_promised b ours after u q n =
        let d : decision (relay_of t) (arrival_of packet m) ≡ decided_as.Drop NotOurs = rw ours in
        let same = drop_stays packet m t accepted.formed b NotOurs (λ e. cc) in
        let left = drop_left packet m t accepted b output NotOurs d (Drop NotOurs) t refl same in
        let drop : Decision = decided_as.Drop NotOurs in
        let forgets : false ≡ remembered_on packet m t = sym (forgotten packet m t drop refl) ∙ remembered_by packet m t drop d in
        let stamped = stamp_left packet m t accepted b _ t _ false refl left.1 refl forgets in
        judged_promised (Drop NotOurs) after u output left.0 (q ∙ stamped) left.2 n
