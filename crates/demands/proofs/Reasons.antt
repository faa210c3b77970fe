-- Document 02, Wish 10, about the bytes: of every packet call, on any bytes,
--   three_on, six_on    the answer is a drop by test 3, and by test 6, exactly where that test's condition holds and none before it;
--   clause_on, case_on  it names clause k + 1 of test 3, or case k + 1 of test 6, with the value x, exactly where that one's own sentence holds, none
--                       before it does, and x is its value.
use Prim.Native.Nat.{ℕ, ◌+◌}
use mathlib.Core.Bool.{Bool, true, false}
use mathlib.Core.List.{List}
use mathlib.Core.Path.{◌≡◌, refl, sym, ap, ◌∙◌}
use lib.Dec.{eqb}
use lib.ListN.{length}
use Rattle.octets.specs.Index.{◌and◌}
use Rattle.octets.proofs.Choice.{then_true, then_false}
use Rattle.rules.specs.View.{View, view_at}
use Rattle.rules.specs.Arrival.{Arrival}
use Rattle.rules.specs.Ways.{way_on}
use Rattle.rules.specs.Tests.{bad_form, no_way_on}
use Rattle.rules.specs.Refusals.{packet_refusal}
use Rattle.rules.specs.Calls.{packet_call}
use Rattle.rules.specs.Run.{packet}
use Rattle.rules.specs.Reasons.{dropped_by, dropped_as, reaches_form, reaches_way, tells_clause, tells_case}
use Rattle.rules.specs.declared.Answer.{Answer}
use Rattle.rules.specs.declared.Answer.TheVariants.{Refused}
use Rattle.rules.specs.declared.Tally.{Tally}
use Rattle.rules.proofs.Reasons.{number_3, number_6, clause_told, case_told}
use Rattle.tables.specs.Layout.{relay_of, well_formed}
use Rattle.relay.specs.Promise.{JudgementOn, in_bytes, packet_on}
use Rattle.demands.specs.Refusals.{refusal, after_seven, refusal_on}

module _ (a : Arrival) (tables : List ℕ) (tally : Tally) (output : List ℕ) where
  abbrev pub answer_on : Answer
  answer_on = (packet_on a.bytes a.port a.clock a.signed tables tally output).answer

  -- no row refuses the call
  abbrev pub taken : Bool
  taken = eqb (refusal_on (packet a output) tables) 0

  -- what the tables show at the packet's clock
  abbrev pub shown : View
  shown = view_at a.clock (relay_of tables)

  on_bytes : (f : Answer → Bool) (x : Bool) → ((n : ℕ) → f (Refused n) ≡ false)
      → f (packet_call a (relay_of tables) tally output).answer ≡ (eqb (packet_refusal (relay_of tables) a (length output)) 0 and x)
      → f answer_on ≡ (taken and x)
  unfolding packet_on in_bytes refusal_on after_seven refusal ◌and◌
  on_bytes f x none e = go (well_formed tables) refl
    where
      go : (b : Bool) → well_formed tables ≡ b → f answer_on ≡ (taken and x)
      go true q = ap (λ (o : JudgementOn). f o.answer) (then_true _ _ q) ∙ e ∙ sym (ap (λ (n : ℕ). eqb n 0 and x) (then_true _ _ q))
      go false q = ap (λ (o : JudgementOn). f o.answer) (then_false _ _ q) ∙ none 7 ∙ sym (ap (λ (n : ℕ). eqb n 0 and x) (then_false _ _ q))

  pub three_on : dropped_by 3 answer_on ≡ (taken and reaches_form shown a and bad_form a.bytes)
  unfolding dropped_by
  three_on = on_bytes (dropped_by 3) _ (λ n. refl) (number_3 a (relay_of tables) tally output)

  pub six_on : dropped_by 6 answer_on ≡ (taken and reaches_way shown a and no_way_on (way_on shown a))
  unfolding dropped_by
  six_on = on_bytes (dropped_by 6) _ (λ n. refl) (number_6 a (relay_of tables) tally output)

  pub clause_on : (k x : ℕ) → dropped_as 3 (1 + k) x answer_on ≡ (taken and tells_clause shown a k x)
  unfolding dropped_as
  clause_on k x = on_bytes (dropped_as 3 (1 + k) x) _ (λ n. refl) (clause_told a (relay_of tables) tally output k x)

  pub case_on : (k x : ℕ) → dropped_as 6 (1 + k) x answer_on ≡ (taken and tells_case shown a k x)
  unfolding dropped_as
  case_on k x = on_bytes (dropped_as 6 (1 + k) x) _ (λ n. refl) (case_told a (relay_of tables) tally output k x)
