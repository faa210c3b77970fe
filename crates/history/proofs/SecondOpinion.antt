-- Wish 13: the second opinion and the rules reply alike, since what is known from the list agrees with the tables after every list of calls since fresh.
use Prim.Native.Nat.{ℕ, suc, ◌≤◌, ◌<◌}
use native.Mathlib.Nat.{le_refl}
use native.Mathlib.Omega.{arith}
use mathlib.Core.Bool.{Bool, true, false, not, false≢true}
use mathlib.Core.List.{List, [], ◌∷◌}
use mathlib.Core.Path.{◌≡◌, refl, sym, ap, ap₂, subst, ◌∙◌}
use lib.Dec.{eqb, ltb, leb}
use lib.ListN.{length}
use borrow.Author.Tests.{lt-leb}
use Rattle.octets.specs.Choice.{◌then◌otherwise◌, ◌or◌}
use Rattle.octets.specs.Listed.{◌gives◌otherwise◌, first_of}
use Rattle.octets.proofs.Choice.{then_false}
use Rattle.octets.proofs.Listed.{past}
use Rattle.packet.specs.Read.{reading_refusal}
use Rattle.packet.specs.Write.{least_output}
use Rattle.numbers.specs.Numbers.{clock_limit}
use Rattle.rules.specs.Relay.{Port, Relay, fresh}
use Rattle.rules.specs.View.{View, view_at, port_size}
use Rattle.rules.specs.Refusals.{tables_ok, packet_rows, refusal_by, packet_refusal}
use Rattle.rules.specs.Arrival.{Arrival}
use Rattle.rules.specs.Judging.{plan}
use Rattle.rules.specs.Writes.{enact}
use Rattle.rules.specs.Calls.{Judgement, judge, packet_call, TableCall, rule_of, table_refusal, settled, settle}
use Rattle.rules.specs.Run.{Call, packet, on_tables, asks, saves, loads, Reply, answered, numbered, of_judgement, of_setting, perform, sets_relay, none_loads}
use Rattle.rules.specs.declared.Answer.TheVariants.{Refused}
use Rattle.rules.specs.declared.Tally.{Tally}
use Rattle.rules.proofs.Choices.{either}
use Rattle.rules.proofs.Rows.{table_passed}
use Rattle.rules.proofs.Held.{judged_relay, judged_reply, ask_kept, save_kept, load_kept, first_none, others_none}
use Rattle.rules.proofs.Stamped.{enact_clock}
use Rattle.rules.proofs.Accepted.{accepted_packet}
use Rattle.rules.proofs.Valid.{Valid, valid_of, step_ok, fresh_ok}
use Rattle.rules.proofs.Unique.{Unique, fresh_unique, step_unique}
use Rattle.history.specs.Known.{Known, seen_at}
use Rattle.history.specs.After.{Entry, came, called, after_packet, after, known_of}
use Rattle.history.specs.Opinion.{list_limit, packet_refused, call_refused, judged_by, on_packet, on_call, listed}
use Rattle.history.specs.Opinion as opinion
use Rattle.history.specs.SecondOpinion.{coarse, coarse_answer, RepliesAlike, AllReplyAlike, SecondOpinion}
use Rattle.history.proofs.Coarse.{judged_coarse, known_coarse}
use Rattle.history.proofs.Agrees.{Agrees, agrees_later, on_agrees, seen_agrees, fresh_agrees}
use Rattle.history.proofs.Packets.{packet_agrees}
use Rattle.history.proofs.Calls.{rows_agree, call_agrees}

-- at the last accepted clock and from then on
abbrev Follows : List ℕ → List Entry → Relay → Type 0
Follows own entries r = Agrees r.clock (length entries) (known_of own entries) r

module _ (own : List ℕ) (entries : List Entry) (r : Relay) (h : Follows own entries r) (ok : tables_ok r ≡ true) (u : Unique r)
    (under : length entries < list_limit) where
  abbrev k : Known
  k = known_of own entries

  valid : Valid r
  valid = valid_of r ok

  -- ---- refusals
  packet_refused_lem : (a : Arrival) (n : ℕ) → packet_refused own entries a n ≡ packet_refusal r a n
  unfolding packet_refused refusal_by packet_rows opinion.packet_rows port_size
  packet_refused_lem a n =
      past _ 28 _ _ (lt-leb list_limit (length entries) under)
      ∙ ap (λ (p : Port). first_of (opinion.packet_rows k a.port a.clock n) (reading_refusal p.size a.bytes)) (sym (h.ports a.port))
      ∙ ap₂ (λ (on : Bool) (last : ℕ).
      first_of
      (ltb n least_output gives 6 otherwise not on gives 4 otherwise leb clock_limit a.clock or ltb a.clock last gives 5 otherwise [])
      (reading_refusal (port_size r a.port) a.bytes)) (sym (on_agrees h valid a.port)) (sym h.clock)
      ∙ sym (past _ 7 _ _ (ap not ok))

  call_refused_lem : (c : TableCall) → call_refused own entries c ≡ table_refusal c r
  unfolding call_refused table_refusal
  call_refused_lem c =
      past _ 28 _ _ (lt-leb list_limit (length entries) under)
      ∙ sym (rows_agree r valid (length entries) under k h c)
      ∙ sym (past _ 7 _ _ (ap not ok))

  -- ---- a packet
  module _ (a : Arrival) (output : List ℕ) (t : Tally) where
    abbrev n : ℕ
    n = packet_refusal r a (length output)

    accepted_reply : eqb n 0 ≡ true → judged_by (seen_at a.clock k) a output ≡ coarse (perform (packet a output) r t).reply
    accepted_reply e =
        ap (λ (v : View). judged_by v a output) (sym (seen_agrees h valid under a.clock (accepted_packet r a (length output) e).not_before))
        ∙ judged_coarse (view_at a.clock r) a output
        ∙ ap coarse (sym (judged_reply a r t output e))

    refused_reply : eqb n 0 ≡ false → answered (Refused n) output ≡ coarse (perform (packet a output) r t).reply
    unfolding perform of_judgement packet_call coarse coarse_answer
    refused_reply e = ap (λ (j : Judgement). coarse (answered j.answer j.output)) (sym (then_false (judge a r t output) _ e))

    packet_alike : on_packet own entries a output ≡ coarse (perform (packet a output) r t).reply
    unfolding on_packet
    packet_alike =
        ap (λ (m : ℕ). eqb m 0 then judged_by (seen_at a.clock k) a output otherwise answered (Refused m) output) (packet_refused_lem a (length output))
        ∙ either (λ (x : Reply). x ≡ coarse (perform (packet a output) r t).reply) (eqb n 0) accepted_reply refused_reply

    accepted_follows : eqb n 0 ≡ true → Follows own (came a ∷ entries) (perform (packet a output) r t).relay
    unfolding known_of after
    accepted_follows e =
        let l : r.clock ≤ a.clock = (accepted_packet r a (length output) e).not_before in
        let v : View = view_at a.clock r in
        let known : after_packet v a (plan v a) k ≡ known_of own (came a ∷ entries) =
        sym (known_coarse v a k) ∙ ap (λ (v : View). after_packet v a (plan v a) k) (seen_agrees h valid under a.clock l) in
        rw (judged_relay a r t output e)
        (subst (λ (now : ℕ). Agrees now (suc (length entries)) (known_of own (came a ∷ entries)) (enact v a (plan v a) r)) (sym (enact_clock v a (plan v a) r))
        (subst (λ (k : Known). Agrees a.clock (suc (length entries)) k (enact v a (plan v a) r)) known
        (packet_agrees a r (u a.clock l) (length entries) under k (agrees_later h l))))

    refused_relay : eqb n 0 ≡ false → (perform (packet a output) r t).relay ≡ r
    unfolding perform of_judgement packet_call
    refused_relay e = ap (λ (j : Judgement). j.relay) (then_false (judge a r t output) _ e)

    packet_follows : Follows own (listed own entries (packet a output)) (perform (packet a output) r t).relay
    unfolding listed
    packet_follows =
        rw (packet_refused_lem a (length output))
        (either (λ (es : List Entry). Follows own es (perform (packet a output) r t).relay) (eqb n 0) accepted_follows (λ e. rw (refused_relay e) h))

  -- ---- a call on the tables
  module _ (c : TableCall) (t : Tally) where
    call_alike : on_call own entries c ≡ (perform (on_tables c) r t).reply
    unfolding on_call perform of_setting settle settled
    call_alike = ap numbered (call_refused_lem c)

    call_follows : Follows own (listed own entries (on_tables c)) (perform (on_tables c) r t).relay
    unfolding listed perform of_setting settle settled known_of after ◌then◌otherwise◌
    call_follows = rw (call_refused_lem c) (go (eqb (table_refusal c r) 0) refl)
      where
        go : (b : Bool) → eqb (table_refusal c r) 0 ≡ b → Follows own (b then called c ∷ entries otherwise entries) (b then (rule_of c).after r otherwise r)
        go true e = call_agrees r valid (length entries) under k h (u r.clock (le_refl r.clock)) c (table_passed c r e)
        go false e = h

  -- ---- any call
  replies_alike : (c : Call) (t : Tally) → RepliesAlike own entries c (perform c r t).reply
  unfolding RepliesAlike
  replies_alike (packet a output) t = packet_alike a output t
  replies_alike (on_tables c) t = call_alike c t
  replies_alike (asks q) t = tt
  replies_alike (saves f room) t = tt
  replies_alike (loads f file) t = tt

  -- of those that are not listed none changes the relay
  still_follows : (c : Call) (t : Tally) → sets_relay c ≡ false → Follows own (listed own entries c) (perform c r t).relay
  unfolding listed sets_relay
  still_follows (packet a output) t none = packet_follows a output t
  still_follows (on_tables c) t none = call_follows c t
  still_follows (asks q) t none = ask_kept (Follows own entries) h q t
  still_follows (saves f room) t none = save_kept (Follows own entries) h f room t
  still_follows (loads f file) t none = load_kept (Follows own entries) h f file t (λ e. absurd (false≢true (sym none ∙ e)))

-- ---- lists of calls
listed_longer : (own : List ℕ) (entries : List Entry) (c : Call) → length entries ≤ length (listed own entries c)
unfolding listed
listed_longer own entries (packet a output) = either (λ (es : List Entry). length entries ≤ length es) _ (λ _. omega arith) (λ _. le_refl (length entries))
listed_longer own entries (on_tables c) = either (λ (es : List Entry). length entries ≤ length es) _ (λ _. omega arith) (λ _. le_refl (length entries))
listed_longer own entries (asks q) = le_refl (length entries)
listed_longer own entries (saves f room) = le_refl (length entries)
listed_longer own entries (loads f file) = le_refl (length entries)

-- once 64 are listed nothing more is said
all_alike : (own : List ℕ) (entries : List Entry) (cs : List Call) (r : Relay) (t : Tally) → none_loads cs ≡ true → tables_ok r ≡ true → Unique r
    → (length entries < list_limit → Follows own entries r) → AllReplyAlike own entries cs r t
unfolding AllReplyAlike
all_alike own entries [] r t none ok u h = tt
all_alike own entries (c ∷ cs) r t none ok u h =
    let first : sets_relay c ≡ false = first_none sets_relay c cs none in (
      λ under. replies_alike own entries r (h under) ok u under c t,
      all_alike own (listed own entries c) cs (perform c r t).relay (perform c r t).tally (others_none sets_relay c cs none) (step_ok c r t ok)
          (step_unique c r t first ok u)
          (λ few.
          let under : length entries < list_limit = omega (arith, few, listed_longer own entries c) in
          still_follows own entries r (h under) ok u under c t first),
    )

fresh_follows : (own : List ℕ) → Follows own [] (fresh own)
unfolding known_of fresh
fresh_follows own = fresh_agrees own

-- THE CLAIM
pub second_opinion : SecondOpinion
second_opinion own cs t none = all_alike own [] cs (fresh own) t none (fresh_ok own) (fresh_unique own) (λ _. fresh_follows own)
