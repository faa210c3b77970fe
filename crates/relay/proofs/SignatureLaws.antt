-- What is told of the signature word, from what refusing and deciding give.
use Rattle.std.proofs.Common.{◌≡◌, ℕ, Bool, true, false, List, sym, refl, ap, ◌∙◌, ne_eqb}
use Rattle.octets.specs.Choice.{◌then◌otherwise◌}
use Rattle.octets.specs.Listed.{first_of}
use Rattle.packet.specs.Header.{is_data}
use Rattle.rules.specs.Relay.{Relay}
use Rattle.rules.specs.View.{view_at}
use Rattle.rules.specs.Arrival.{Arrival, header}
use Rattle.rules.specs.Ways.{everywhere, by_path, along_link, by_return, blocked}
use Rattle.rules.specs.Tests.{not_ours}
use Rattle.rules.specs.Judging.{Plan, dropped, delivered, follows, early_tests, plan}
use Rattle.rules.specs.Refusals.{packet_refusal}
use Rattle.rules.specs.Questions.{whether_word_matters, came_with, of_test, word_matters, question_rule, question_refusal, tell}
use Rattle.tables.specs.Layout.{relay_of, well_formed}
use Rattle.tables.specs.Asked.{tell_on, told_number}
use Rattle.plan.specs.declared.Arrived.{Arrived}
use Rattle.plan.specs.declared.Decision.{Decision}
use Rattle.plan.specs.Decided.{arrival_of, decided_way, decided, decision, decision_on, seen}
use Rattle.relay.specs.Refusal.{packet_refusal_on}
use Rattle.relay.specs.Signature.{decision_tells}
use Rattle.relay.proofs.RefusalLaws.{accepted_formed, accepted_by_rules}

either_tells : (b : Bool) (x y : Decision) → decision_tells x ≡ 0 → decision_tells y ≡ 0 → decision_tells (b then x otherwise y) ≡ 0
unfolding ◌then◌otherwise◌
either_tells true x y e f = e
either_tells false x y e f = f

-- what is decided tells whether test 9 dropped the packet
module _ (r : Relay) (a : Arrival) where
  decided_tells : (todo : Plan) → decision_tells (decided r a todo) ≡ (of_test 9 todo then 255 otherwise 0)
  unfolding decided decided_way of_test ◌then◌otherwise◌
  decided_tells (dropped reason) = refl
  decided_tells delivered = refl
  decided_tells (follows (everywhere known)) = refl
  decided_tells (follows (by_path p)) = either_tells (is_data (header a)) _ _ refl refl
  decided_tells (follows (along_link l)) = refl
  decided_tells (follows (by_return t)) = refl
  decided_tells (follows (blocked why)) = refl

module _ (packet : List ℕ) (port clock : ℕ) (t : List ℕ) (room : ℕ) where
  abbrev told : ℕ
  told = told_number (tell_on t (whether_word_matters packet port clock room))

  abbrev a : Arrival
  a = came_with packet port clock false

  -- refused as the packet call is
  pub word_refused : (n : ℕ) → n ≡ packet_refusal_on packet port clock t room → (n ≡ 0 → ⊥) → n ≡ told
  unfolding packet_refusal_on tell_on tell question_refusal question_rule told_number ◌then◌otherwise◌
  word_refused n q some = go (well_formed t) refl
    where
      go : (h : Bool) → well_formed t ≡ h → n ≡ told
      go false h = let e : n ≡ 7 = q ∙ rw h in rw h e
      go true h =
          let e : n ≡ packet_refusal (relay_of t) a room = q ∙ rw h in
          rw (h, ne_eqb (packet_refusal (relay_of t) a room) 0 (λ z. some (e ∙ z))) e

  module _ (none : packet_refusal_on packet port clock t room ≡ 0) where
    by_plan : told ≡ (word_matters (relay_of t) a then 255 otherwise 0)
    unfolding tell_on tell question_refusal question_rule told_number ◌then◌otherwise◌
    by_plan = rw (accepted_formed packet port clock t room none, accepted_by_rules packet port clock t room none)

    module _ (m : Arrived) (same_port : m.port ≡ port) (same-clock : m.clock ≡ clock) (unsigned : m.signed ≡ false) where
      same_arrival : arrival_of packet m ≡ a
      same_arrival = λ i. record { bytes = packet; port = same_port i; clock = same-clock i; signed = unsigned i }

      pub word_decided : (d : Decision) → d ≡ decision_on packet m t → (n : ℕ) → n ≡ decision_tells d → n ≡ told
      unfolding decision word_matters
      word_decided d e n q =
          q
          ∙ ap decision_tells (e ∙ ap (decision (relay_of t)) same_arrival)
          ∙ decided_tells (relay_of t) a (plan (view_at a.clock (relay_of t)) a)
          ∙ sym by_plan

      -- dropped by test 1
      pub word_not_ours : not_ours (seen m t) (arrival_of packet m) ≡ true → 0 ≡ told
      unfolding word_matters plan early_tests first_of of_test ◌then◌otherwise◌
      word_not_ours e =
          let here : not_ours (view_at a.clock (relay_of t)) a ≡ true =
          ap (λ (x : Arrival). not_ours (view_at x.clock (relay_of t)) x) (sym same_arrival) ∙ e in
          sym (by_plan ∙ rw here)
