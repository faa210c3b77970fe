-- The signature word is read only where a rule names it: for packets that are neither announces nor link proofs, and wherever tests 1 to 8
-- drop, both words give equal results: answer, relay, tally and output. And what a host is told that asks whether it matters.
use Prim.Native.Nat.{ℕ, ◌≤◌}
use native.Mathlib.Omega.{arith}
use mathlib.Core.Bool.{Bool, true, false, not, false≢true}
use mathlib.Core.List.{List, [], ◌∷◌}
use mathlib.Core.Path.{◌≡◌, refl, sym, ap, ap₂, ◌∙◌}
use lib.Dec.{eqb, ltb}
use lib.ListN.{length, take, drop}
use borrow.Author.Tests.{le-ltb, not-true}
use Rattle.octets.specs.Index.{◌and◌}
use Rattle.octets.specs.Choice.{◌then◌otherwise◌, ◌or◌}
use Rattle.packet.specs.Header.{is_announce}
use Rattle.octets.specs.Listed.{Test, ◌gives◌otherwise◌, first_of, any_holds}
use Rattle.octets.proofs.Listed.{told, all_give}
use Rattle.packet.specs.Read.{longest_packet}
use Rattle.rules.specs.Relay.{Relay, Slot, empty, used, Path}
use Rattle.rules.specs.View.{View, view_at}
use Rattle.rules.specs.Refusals.{packet_rows, packet_refusal, refusal_by}
use Rattle.rules.specs.Arrival.{Arrival, header, destination, is_link_proof}
use Rattle.rules.specs.Ways.{Way, everywhere, by_path, along_link, by_return, blocked, way_on}
use Rattle.rules.specs.Tests.{no_way_on, not_signed, known_tests}
use Rattle.rules.specs.Answers.{reason_number}
use Rattle.rules.specs.Outgoing.{spread_ports, outgoing, exceeds}
use Rattle.rules.specs.Judging.{Plan, dropped, delivered, follows, early_tests, onward_tests, plan, onward_plan, verdict, way_verdict, spread_verdict}
use Rattle.rules.specs.Writes.{limit_path, is_rate_drop, write_drop}
use Rattle.rules.specs.Calls.{Judgement, judged, judge, packet_call}
use Rattle.rules.specs.Questions.{whether_word_matters, Told, refused, yes_or_no, came_with, of_test, word_matters, question_rule, question_refusal, tell}
use Rattle.rules.specs.declared.Reason.{Reason}
use Rattle.rules.specs.declared.Reason.TheVariants.{NotSigned}
use Rattle.rules.specs.declared.Verdict.{Verdict}
use Rattle.rules.specs.declared.Verdict.TheVariants.{Drop, Deliver, Forward, Spread, Kept}
use Rattle.rules.specs.declared.Answer.TheVariants.{Refused, Judged}
use Rattle.rules.specs.declared.Tally.{Tally}
use Rattle.rules.proofs.Unfolding.{tests, answers, writes, calls, rules}
use Rattle.rules.proofs.Passed.{names_test, names_test_lem}
use Rattle.octets.proofs.Listed.{late_from, all_first, past_first, rest_alike, told_alike}

-- the packet with the host's word on its signature
abbrev pub with_word : Bool → Arrival → Arrival
with_word word a = came_with a.bytes a.port a.clock word

-- ---- the plan, with what test 9 says given
onward_by : Bool → View → Arrival → Way → Plan
onward_by unsigned v a w = first_of (told (of_test 9) unsigned (onward_tests v a w)) (follows w)

plan_by : Bool → View → Arrival → Plan
plan_by unsigned v a = first_of (early_tests v a) (onward_by unsigned v a (way_on v a))

-- nothing else in it reads the word
module _ (v : View) (a : Arrival) (word : Bool) where
  onward_by_lem : (w : Way) → onward_plan v (with_word word a) w ≡ onward_by (not_signed (with_word word a)) v a w
  unfolding rules onward_by of_test
  onward_by_lem (everywhere empty) = refl
  onward_by_lem (everywhere (used p)) = refl
  onward_by_lem (by_path p) = refl
  onward_by_lem (along_link l) = refl
  onward_by_lem (by_return t) = refl
  onward_by_lem (blocked why) = refl

  plan_by_lem : plan v (with_word word a) ≡ plan_by (not_signed (with_word word a)) v a
  unfolding rules plan_by
  plan_by_lem = ap (first_of (early_tests v a)) (onward_by_lem (way_on v a))

  -- nor does what is written by it
  limited_by : (s : Slot Path) (r : Relay) → limit_path v (with_word word a) s r ≡ limit_path v a s r
  unfolding writes
  limited_by empty r = refl
  limited_by (used p) r = refl

  drop_by_lem : (reason : Reason) (r : Relay) → write_drop v (with_word word a) reason r ≡ write_drop v a reason r
  unfolding write_drop
  drop_by_lem reason r = ap (λ (s : Relay). is_rate_drop reason then s otherwise r) (limited_by (v.path (destination a)) r)

  judged_by_lem : (todo : Plan) (r : Relay) (t : Tally) (output : List ℕ) → judged (with_word word a) todo v r t output ≡ judged a todo v r t output
  unfolding tests answers writes calls
  judged_by_lem (dropped reason) r t output = rw (drop_by_lem reason r)
  judged_by_lem delivered r t output = refl
  judged_by_lem (follows (everywhere empty)) r t output = refl
  judged_by_lem (follows (everywhere (used p))) r t output = refl
  judged_by_lem (follows (by_path p)) r t output = refl
  judged_by_lem (follows (along_link l)) r t output = refl
  judged_by_lem (follows (by_return p)) r t output = refl
  judged_by_lem (follows (blocked why)) r t output = refl

-- ---- tests 1 to 8
-- the test that dropped the packet, or 255
drop_of : Verdict → ℕ
drop_of (Drop reason) = reason_number reason
drop_of Deliver = 255
drop_of (Forward port length) = 255
drop_of (Spread ports length) = 255
drop_of Kept = 255

module _ (v : View) (a : Arrival) where
  -- none of them drops
  late : Plan → Bool
  late p = ltb 8 (drop_of (verdict v a p))

  late_follows : (w : Way) → no_way_on w ≡ false → late (follows w) ≡ true
  unfolding late verdict way_verdict spread_verdict drop_of no_way_on ◌then◌otherwise◌
  late_follows (everywhere known) n = go (eqb (spread_ports v a) 0 or exceeds (outgoing v a (everywhere known)) longest_packet)
    where
      go : (b : Bool) → ltb 8 (drop_of (b then Kept otherwise Spread (spread_ports v a) (length (outgoing v a (everywhere known))))) ≡ true
      go true = refl
      go false = refl
  late_follows (by_path p) n = refl
  late_follows (along_link l) n = refl
  late_follows (by_return t) n = refl
  late_follows (blocked why) n = absurd (false≢true (sym n))

  onward_alike : (b c : Bool) (w : Way) → late (onward_by b v a w) ≡ false → onward_by c v a w ≡ onward_by b v a w
  unfolding onward_by onward_tests known_tests told of_test first_of late_from all_give late verdict drop_of ◌and◌ ◌then◌otherwise◌
  onward_alike b c w = go (no_way_on w) refl
    where
      go : (n : Bool) → no_way_on w ≡ n → late (onward_by b v a w) ≡ false → onward_by c v a w ≡ onward_by b v a w
      go true q e = rw q
      go false q e = told_alike late (of_test 9) b c (onward_tests v a w) (follows w) (late_follows w q) refl e

  plan_alike : (b c : Bool) → late (plan_by b v a) ≡ false → plan_by c v a ≡ plan_by b v a
  unfolding plan_by
  plan_alike b c = rest_alike late (early_tests v a) _ _ (onward_alike b c (way_on v a))

no_test_9 : (a : Arrival) (word : Bool) → is_announce (header a) ≡ false → is_link_proof a.bytes ≡ false → not_signed (with_word word a) ≡ false
unfolding not_signed is_link_proof ◌or◌ ◌and◌
no_test_9 a word n l = ap₂ (λ (x y : Bool). (x or y) and not word) n l

-- ---- a whole call
module _ (a : Arrival) (r : Relay) (t : Tally) (output : List ℕ) where
  seen : View
  seen = view_at a.clock r

  refusal : ℕ
  refusal = packet_refusal r a (length output)

  -- by whether the packet is accepted, and what test 9 says
  result_by : Bool → Bool → Judgement
  result_by accepted unsigned =
      accepted then judged a (plan_by unsigned seen a) seen r t output otherwise
      record { answer = Refused refusal; relay = r; tally = t; output = output }

  result_by_lem : (word : Bool) → packet_call (with_word word a) r t output ≡ result_by (eqb refusal 0) (not_signed (with_word word a))
  unfolding packet_call judge refusal_by packet_rows seen refusal result_by
  result_by_lem word =
      ap (λ (j : Judgement). eqb refusal 0 then j otherwise record { answer = Refused refusal; relay = r; tally = t; output = output })
      (ap (λ (todo : Plan). judged (with_word word a) todo seen r t output) (plan_by_lem seen a word)
      ∙ judged_by_lem seen a word (plan_by (not_signed (with_word word a)) seen a) r t output)

  result_alike : (accepted b c : Bool) (reason : Reason) → (result_by accepted b).answer ≡ Judged (Drop reason) → reason_number reason ≤ 8
      → result_by accepted c ≡ result_by accepted b
  unfolding result_by ◌then◌otherwise◌ judged drop_of late
  result_alike true b c reason e l =
      let d : verdict seen a (plan_by b seen a) ≡ Drop reason = cc in
      ap (λ (todo : Plan). judged a todo seen r t output) (plan_alike seen a b c (rw d (le-ltb 8 (reason_number reason) l)))
  result_alike false b c reason e l = refl

  -- for a packet that is neither an announce nor a link proof, both words give equal results
  pub word_unread : is_announce (header a) ≡ false → is_link_proof a.bytes ≡ false
      → packet_call (with_word true a) r t output ≡ packet_call (with_word false a) r t output
  word_unread n l =
      result_by_lem true
      ∙ ap (result_by (eqb refusal 0)) (no_test_9 a true n l ∙ sym (no_test_9 a false n l))
      ∙ sym (result_by_lem false)

  -- where one of tests 1 to 8 drops with one word, the other gives an equal result
  pub word_unread_before_9 : (word other : Bool) (reason : Reason)
      → (packet_call (with_word word a) r t output).answer ≡ Judged (Drop reason) → reason_number reason ≤ 8
      → packet_call (with_word other a) r t output ≡ packet_call (with_word word a) r t output
  word_unread_before_9 word other reason e l =
      result_by_lem other
      ∙ result_alike (eqb refusal 0) (not_signed (with_word word a)) (not_signed (with_word other a)) reason
      (sym (ap (λ (j : Judgement). j.answer) (result_by_lem word)) ∙ e) l
      ∙ sym (result_by_lem word)

-- ---- whether it matters, asked before it is known
-- where what a list gives isn't of a kind, the tests for that kind may as well say no
told_unread : {A : Type 0} (p : A → Bool) (b : Bool) (ts : List (Test A)) (rest : A) → p (first_of (told p b ts) rest) ≡ false
    → first_of (told p false ts) rest ≡ first_of (told p b ts) rest
unfolding first_of told ◌then◌otherwise◌
told_unread p b [] rest e = refl
told_unread p b (t ∷ ts) rest e = go (p t.value) refl b t.holds (told_unread p b ts rest) e
  where
    go : (k : Bool) → p t.value ≡ k → (c h : Bool)
        → (p (first_of (told p b ts) rest) ≡ false → first_of (told p false ts) rest ≡ first_of (told p b ts) rest)
        → p ((k then c otherwise h) then t.value otherwise first_of (told p b ts) rest) ≡ false
        → ((k then false otherwise h) then t.value otherwise first_of (told p false ts) rest)
        ≡ ((k then c otherwise h) then t.value otherwise first_of (told p b ts) rest)
    go true q true h below e = absurd (false≢true (sym e ∙ q))
    go true q false h below e = below e
    go false q c true below e = refl
    go false q c false below e = below e

-- where they say no, nothing of the kind is given
pub told_never : {A : Type 0} (p : A → Bool) (ts : List (Test A)) (rest : A) → p rest ≡ false → p (first_of (told p false ts) rest) ≡ false
unfolding first_of told ◌then◌otherwise◌
told_never p [] rest e = e
told_never p (t ∷ ts) rest e = go (p t.value) refl t.holds (told_never p ts rest e)
  where
    go : (k : Bool) → p t.value ≡ k → (h : Bool) → p (first_of (told p false ts) rest) ≡ false
        → p ((k then false otherwise h) then t.value otherwise first_of (told p false ts) rest) ≡ false
    go true q h below = below
    go false q true below = q
    go false q false below = below

module _ (v : View) (a : Arrival) where
  -- a packet that test 9 doesn't drop is planned as with the word yes
  plan_signed : (b : Bool) → of_test 9 (plan_by b v a) ≡ false → plan_by false v a ≡ plan_by b v a
  unfolding plan_by onward_by
  plan_signed b =
      rest_alike (of_test 9) (early_tests v a) _ _ (told_unread (of_test 9) b (onward_tests v a (way_on v a)) (follows (way_on v a)))

  -- which test 9 never drops
  signed_passes : of_test 9 (plan_by false v a) ≡ false
  unfolding plan_by onward_by early_tests all_give of_test ◌and◌
  signed_passes =
      not-true _
      (all_first (λ x. not (of_test 9 x)) (early_tests v a) _ refl
      (ap not (told_never (of_test 9) (onward_tests v a (way_on v a)) (follows (way_on v a)) refl)))

yes_signed : (a : Arrival) → not_signed (with_word true a) ≡ false
unfolding not_signed ◌and◌
yes_signed a = go (is_announce (header a) or is_link_proof a.bytes)
  where
    go : (b : Bool) → (b and false) ≡ false
    go true = refl
    go false = refl

-- ---- the statement
-- a packet, and the two calls that could follow
pub record WordMattersExactly (a : Arrival) (r : Relay) (t : Tally) (output : List ℕ) (said : Told) : Type 0 where
  -- yes exactly if the packet call's answer with the word yes differs from its answer with the word no
  pub yes_differs : said ≡ yes_or_no true
      → (packet_call (with_word true a) r t output).answer ≡ (packet_call (with_word false a) r t output).answer → ⊥
  pub differs_yes : ((packet_call (with_word true a) r t output).answer ≡ (packet_call (with_word false a) r t output).answer → ⊥)
      → said ≡ yes_or_no true
  -- no: both words give equal results
  pub no_equal : said ≡ yes_or_no false → packet_call (with_word true a) r t output ≡ packet_call (with_word false a) r t output
  -- refused exactly as the packet call is, whatever the word
  pub refused_with : (n : ℕ) (word : Bool) → said ≡ refused n → (packet_call (with_word word a) r t output).answer ≡ Refused n
  pub refused_by : (n : ℕ) (word : Bool) → (packet_call (with_word word a) r t output).answer ≡ Refused n → said ≡ refused n

module _ (a : Arrival) (r : Relay) (t : Tally) (output : List ℕ) where
  abbrev accepted : Bool
  accepted = eqb (packet_refusal r a (length output)) 0

  abbrev unsigned : Bool
  unsigned = not_signed (with_word false a)

  abbrev said_by : Bool → Told
  said_by ok = ok then yes_or_no (word_matters r (with_word false a)) otherwise refused (packet_refusal r a (length output))

  abbrev shown : View
  shown = seen a r t output

  matters_by : word_matters r (with_word false a) ≡ of_test 9 (plan_by unsigned shown a)
  unfolding word_matters seen
  matters_by = ap (of_test 9) (plan_by_lem (view_at a.clock r) a false)

  answered_no : accepted ≡ false → (word : Bool) → (packet_call (with_word word a) r t output).answer ≡ Refused (packet_refusal r a (length output))
  unfolding refusal result_by ◌then◌otherwise◌
  answered_no is word = ap (λ (j : Judgement). j.answer) (result_by_lem a r t output word) ∙ rw is

  answered_yes : accepted ≡ true → (word : Bool)
      → (packet_call (with_word word a) r t output).answer ≡ Judged (verdict shown a (plan_by (not_signed (with_word word a)) shown a))
  unfolding refusal result_by judged ◌then◌otherwise◌
  answered_yes is word = ap (λ (j : Judgement). j.answer) (result_by_lem a r t output word) ∙ rw is

  unread : word_matters r (with_word false a) ≡ false → packet_call (with_word true a) r t output ≡ packet_call (with_word false a) r t output
  unfolding result_by
  unread e =
      result_by_lem a r t output true
      ∙ ap (result_by a r t output (eqb (refusal a r t output) 0)) (yes_signed a)
      ∙ ap
      (λ (todo : Plan).
      eqb (refusal a r t output) 0 then judged a todo shown r t output otherwise
      record { answer = Refused (refusal a r t output); relay = r; tally = t; output = output })
      (plan_signed shown a unsigned (sym matters_by ∙ e))
      ∙ sym (result_by_lem a r t output false)

  -- test 9 drops the packet with the one word, and not with the other
  read : accepted ≡ true → word_matters r (with_word false a) ≡ true
      → (packet_call (with_word true a) r t output).answer ≡ (packet_call (with_word false a) r t output).answer → ⊥
  read is m d =
      let answers : Judged (verdict shown a (plan_by (not_signed (with_word true a)) shown a)) ≡ Judged (verdict shown a (plan_by unsigned shown a)) =
      sym (answered_yes is true) ∙ d ∙ answered_yes is false in
      let verdicts : verdict shown a (plan_by (not_signed (with_word true a)) shown a) ≡ verdict shown a (plan_by unsigned shown a) = cc in
      false≢true
      (sym (ap (λ (b : Bool). of_test 9 (plan_by b shown a)) (yes_signed a) ∙ signed_passes shown a)
      ∙ sym (names_test_lem shown a 9 refl _)
      ∙ ap (names_test 9) verdicts
      ∙ names_test_lem shown a 9 refl _
      ∙ sym matters_by
      ∙ m)

  exactly_so : (ok : Bool) → accepted ≡ ok → WordMattersExactly a r t output (said_by ok)
  unfolding ◌then◌otherwise◌
  exactly_so true is =
      record {
        yes_differs = λ e d. let m : word_matters r (with_word false a) ≡ true = cc in read is m d;
        differs_yes = λ d. go d (word_matters r (with_word false a)) refl;
        no_equal = λ e. let m : word_matters r (with_word false a) ≡ false = cc in unread m;
        refused_with = λ n word e. let z : ◌≡◌ {A = ℕ} 0 1 = cc in absurd (omega arith);
        refused_by = λ n word e. let f : Judged _ ≡ Refused n = sym (answered_yes is word) ∙ e in let z : ◌≡◌ {A = ℕ} 0 1 = cc in absurd (omega arith);
      }
    where
      go : ((packet_call (with_word true a) r t output).answer ≡ (packet_call (with_word false a) r t output).answer → ⊥)
          → (b : Bool) → word_matters r (with_word false a) ≡ b → yes_or_no b ≡ yes_or_no true
      go d true e = refl
      go d false e = absurd (d (ap (λ (j : Judgement). j.answer) (unread e)))
  exactly_so false is =
      record {
        yes_differs = λ e d. let z : ◌≡◌ {A = ℕ} 0 1 = cc in omega arith;
        differs_yes = λ d. absurd (d (answered_no is true ∙ sym (answered_no is false)));
        no_equal = λ e. let z : ◌≡◌ {A = ℕ} 0 1 = cc in absurd (omega arith);
        refused_with = λ n word e. let m : packet_refusal r a (length output) ≡ n = cc in answered_no is word ∙ ap Refused m;
        refused_by = λ n word e.
            let f : Refused (packet_refusal r a (length output)) ≡ Refused n = sym (answered_no is word) ∙ e in
            let m : packet_refusal r a (length output) ≡ n = cc in
            ap refused m;
      }

  -- ---- the theorems, for every relay, tally and output
  pub word_matters_exactly : WordMattersExactly a r t output (tell (whether_word_matters a.bytes a.port a.clock (length output)) r)
  unfolding tell question_refusal question_rule
  word_matters_exactly = exactly_so accepted refl

-- ---- tests 1 to 8, and what test 9 is about
no_unsigned : (a : Arrival) → not_signed (with_word false a) ≡ (is_announce (header a) or is_link_proof a.bytes)
unfolding not_signed ◌and◌
no_unsigned a = go (is_announce (header a) or is_link_proof a.bytes)
  where
    go : (b : Bool) → (b and true) ≡ b
    go true = refl
    go false = refl

module _ (v : View) (a : Arrival) (w : Way) where
  after_nine : (b : Bool) → of_test 9 (first_of (b gives dropped NotSigned otherwise drop 4 (onward_tests v a w)) (follows w)) ≡ b
  unfolding first_of of_test onward_tests known_tests all_give ◌and◌ ◌then◌otherwise◌
  after_nine true = refl
  after_nine false = not-true _ (all_first (λ x. not (of_test 9 x)) (drop 4 (onward_tests v a w)) (follows w) refl refl)

  onward_nine : (b : Bool) → of_test 9 (onward_by b v a w) ≡ (not (any_holds (take 3 (onward_tests v a w))) and b)
  unfolding onward_by told first_of of_test onward_tests known_tests all_give ◌and◌ ◌then◌otherwise◌
  onward_nine b =
      past_first (of_test 9) (take 3 (onward_tests v a w)) (first_of (b gives dropped NotSigned otherwise drop 4 (onward_tests v a w)) (follows w)) refl
      ∙ ap (λ (x : Bool). not (any_holds (take 3 (onward_tests v a w))) and x) (after_nine b)

-- exactly if tests 1 to 5, and the first three of those on the way, 6 to 8, let the packet by, and it is an announce or a link proof
module _ (a : Arrival) (r : Relay) where
  abbrev view : View
  view = view_at a.clock r

  pub word_matters_when : word_matters r (with_word false a)
      ≡ (not (any_holds (early_tests view a))
      and not (any_holds (take 3 (onward_tests view a (way_on view a))))
      and (is_announce (header a) or is_link_proof a.bytes))
  unfolding word_matters plan_by early_tests all_give of_test ◌and◌
  word_matters_when =
      ap (of_test 9) (plan_by_lem view a false)
      ∙ past_first (of_test 9) (early_tests view a) (onward_by (not_signed (with_word false a)) view a (way_on view a)) refl
      ∙ ap (λ (x : Bool). not (any_holds (early_tests view a)) and x)
      (onward_nine view a (way_on view a) (not_signed (with_word false a))
      ∙ ap (λ (x : Bool). not (any_holds (take 3 (onward_tests view a (way_on view a)))) and x) (no_unsigned a))
