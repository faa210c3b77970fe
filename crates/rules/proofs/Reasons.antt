-- Document 02, Wish 10: an answer's number is 3, and 6, exactly where those tests' conditions say so; and each clause and case is told exactly where its
-- own sentence holds and none before it, with its value.
use Prim.Native.Nat.{ℕ, zero, suc, ◌+◌, ◌<◌}
use native.Mathlib.Omega.{arith}
use mathlib.Core.Bool.{Bool, true, false, not, false≢true}
use mathlib.Core.List.{List, [], ◌∷◌}
use mathlib.Core.Path.{◌≡◌, refl, sym, ap, ◌∙◌}
use lib.Dec.{eqb}
use lib.ListN.{length}
use borrow.Author.Tests.{eq-eqb, ne_eqb, eqb-true, not-true, not-false}
use Rattle.octets.specs.Index.{◌and◌}
use Rattle.octets.specs.Choice.{◌then◌otherwise◌, ◌or◌}
use Rattle.octets.specs.Listed.{Test, first_of, any_holds, valued}
use Rattle.octets.proofs.Index.{and_both, and_no, and_assoc, and_true}
use Rattle.octets.proofs.Listed.{all_give, all_first, past_first}
use Rattle.packet.specs.Header.{type_two, of_kind_link, packet_kind, is_data, is_announce, is_link_request, is_proof}
use Rattle.rules.specs.Relay.{Slot, empty, used, Path, Return, Relay}
use Rattle.rules.specs.View.{View, view_at}
use Rattle.rules.specs.Arrival.{Arrival, header, hops, destination, is_link_proof}
use Rattle.rules.specs.Refusals.{packet_refusal}
use Rattle.rules.specs.Ways.{Way, everywhere, by_path, along_link, by_return, blocked, no_path, path_way, link_way, return_way, way_on}
use Rattle.rules.specs.Tests.{not_ours, duplicate, form_tests, bad_form, failing, own_announce, delivered_here, too_many_hops, no_way_on, why_blocked, is_there, known_tests}
use Rattle.rules.specs.Answers.{clause_number, least_length, case_number, greatest_expiry}
use Rattle.rules.specs.Judging.{follows, early_tests, onward_tests, onward_plan, plan, spread_verdict, way_verdict, verdict}
use Rattle.rules.specs.Calls.{judged, judge, packet_call}
use Rattle.rules.specs.Reasons.{drop_by, dropped_by, drop_as, dropped_as, reaches_form, reaches_way, clauses, wants_path, of_link, is_ordinary_proof, is_unproved, expiry_or0, cases, holds_first, tells_clause, tells_case}
use Rattle.rules.specs.declared.Link.{Link}
use Rattle.rules.specs.declared.Clause.{Clause}
use Rattle.rules.specs.declared.Clause.TheVariants.{TypeTwoProof}
use Rattle.rules.specs.declared.Blocked.TheVariants.{NotAsking, NotProved}
use Rattle.rules.specs.declared.Reason.TheVariants.{BadForm, NoWayOn}
use Rattle.rules.specs.declared.Verdict.{Verdict}
use Rattle.rules.specs.declared.Verdict.TheVariants.{Drop, Deliver, Forward, Spread, Kept}
use Rattle.rules.specs.declared.Answer.{Answer}
use Rattle.rules.specs.declared.Answer.TheVariants.{Refused, Judged}
use Rattle.rules.specs.declared.Tally.{Tally}
use Rattle.rules.proofs.Choices.{either}
use Rattle.rules.proofs.Followed.{is_request}

-- ---- lists of sentences: the first that holds, counted from n, has number k and the value x
unfoldable tells_from : (n k x : ℕ) → List (Test ℕ) → Bool
tells_from n k x [] = false
tells_from n k x (t ∷ ts) = t.holds then eqb n k and eqb t.value x otherwise tells_from (n + 1) k x ts

-- none has a number below n
not_below : (n k x : ℕ) → k < n → (ts : List (Test ℕ)) → tells_from n k x ts ≡ false
unfolding tells_from ◌and◌
not_below n k x l [] = refl
not_below n k x l (t ∷ ts) =
    either (λ (b : Bool). b ≡ false) t.holds (λ _. rw (ne_eqb n k (λ e. omega (arith, e, l))) refl) (λ _. not_below (n + 1) k x (omega (arith, l)) ts)

-- number n + k is told where the sentence with k before it holds, and none of those does
at_place : (n k x : ℕ) (ts : List (Test ℕ)) → tells_from n (n + k) x ts ≡ holds_first k x ts
unfolding tells_from holds_first ◌then◌otherwise◌ ◌and◌
at_place n k x [] = refl
at_place n zero x (t ∷ ts) = go t.holds
  where
    go : (b : Bool) → (b then eqb n (n + 0) and eqb t.value x otherwise tells_from (n + 1) (n + 0) x ts) ≡ (b and eqb t.value x)
    go true = rw (eq-eqb n (n + 0) (omega arith)) refl
    go false = not_below (n + 1) (n + 0) x (omega arith) ts
at_place n (suc k) x (t ∷ ts) = go t.holds (at_place (n + 1) k x ts)
  where
    go : (b : Bool) → tells_from (n + 1) (n + 1 + k) x ts ≡ holds_first k x ts
        → (b then eqb n (n + suc k) and eqb t.value x otherwise tells_from (n + 1) (n + suc k) x ts) ≡ (not b and holds_first k x ts)
    go true below = rw (ne_eqb n (n + suc k) (λ e. omega (arith, e))) refl
    go false below = ap (λ (m : ℕ). tells_from (n + 1) m x ts) (omega arith) ∙ below

-- ---- test 3's clauses
-- each of a list of clauses has the number of its place
unfoldable numbered : ℕ → List (Test Clause) → Type 0
numbered n [] = Unit {0}
numbered n (t ∷ ts) = (clause_number t.value ≡ n) × numbered (n + 1) ts

first_told : (n k x : ℕ) (ts : List (Test Clause)) (rest : Clause) → numbered n ts
    → (any_holds ts and eqb (clause_number (first_of ts rest)) k and eqb (least_length (first_of ts rest)) x) ≡ tells_from n k x (valued least_length ts)
unfolding numbered any_holds first_of tells_from valued ◌then◌otherwise◌ ◌or◌ ◌and◌
first_told n k x [] rest g = refl
first_told n k x (t ∷ ts) rest g = go t.holds (first_told (n + 1) k x ts rest g.1)
  where
    go : (b : Bool)
        → (any_holds ts and eqb (clause_number (first_of ts rest)) k and eqb (least_length (first_of ts rest)) x)
        ≡ tells_from (n + 1) k x (valued least_length ts)
        → ((b or any_holds ts) and eqb (clause_number (b then t.value otherwise first_of ts rest)) k
        and eqb (least_length (b then t.value otherwise first_of ts rest)) x)
        ≡ (b then eqb n k and eqb (least_length t.value) x otherwise tells_from (n + 1) k x (valued least_length ts))
    go true below = rw g.0 refl
    go false below = below

form_told : (p : List ℕ) (k x : ℕ)
    → (bad_form p and eqb (clause_number (failing p)) k and eqb (least_length (failing p)) x) ≡ tells_from 1 k x (clauses p)
unfolding bad_form failing form_tests clauses valued numbered
form_told p k x =
    first_told 1 k x (form_tests p) TypeTwoProof (refl, (refl, (refl, (refl, (refl, (refl, (refl, (refl, tt))))))))

-- ---- verdicts
-- where the first test fails, what the others give decides
abbrev FirstFails : {A : Type 0} → List (Test A) → Type 0
FirstFails [] = Unit {0}
FirstFails (t ∷ ts) = t.holds ≡ false

abbrev others_give : {A : Type 0} → (A → Bool) → List (Test A) → Bool
others_give p [] = true
others_give p (t ∷ ts) = all_give p ts

second_on : {A : Type 0} (p : A → Bool) (ts : List (Test A)) (rest : A) → FirstFails ts → others_give p ts ≡ true → p rest ≡ true → p (first_of ts rest) ≡ true
unfolding first_of ◌then◌otherwise◌
second_on p [] rest e g r = r
second_on p (t ∷ ts) rest e g r = rw e (all_first p ts rest g r)

not_or : (a b : Bool) → not (a or b) ≡ (not a and not b)
unfolding ◌or◌ ◌and◌
not_or true b = refl
not_or false b = refl

module _ (v : View) (a : Arrival) where
  abbrev way : Way
  way = way_on v a

  -- a test of verdicts that holds of drops by test n alone
  abbrev OfTest : ℕ → (Verdict → Bool) → Type 0
  OfTest n g = (y : Verdict) → drop_by n y ≡ false → g y ≡ false

  -- ---- tests 1 to 5
  reaches_none : reaches_way v a ≡ not (any_holds (early_tests v a))
  unfolding reaches_way reaches_form early_tests any_holds
  reaches_none = simp (not_or, and_assoc, and_true)

  -- of a test of verdicts that holds of nothing that they give: the packet gets past them, and what the others give decides
  pub early_decides : (g : Verdict → Bool) → all_give (λ todo. not (g (verdict v a todo))) (early_tests v a) ≡ true
      → g (verdict v a (plan v a)) ≡ (reaches_way v a and g (verdict v a (onward_plan v a way)))
  unfolding plan
  early_decides g none =
      past_first (λ todo. g (verdict v a todo)) (early_tests v a) (onward_plan v a way) none
      ∙ ap (λ (b : Bool). b and g (verdict v a (onward_plan v a way))) (sym reaches_none)

  -- ---- number 3
  follows_not_3 : (w : Way) → drop_by 3 (verdict v a (follows w)) ≡ false
  unfolding verdict way_verdict spread_verdict drop_by
  follows_not_3 (everywhere known) = either (λ y. drop_by 3 y ≡ false) _ (λ _. refl) (λ _. refl)
  follows_not_3 (by_path p) = refl
  follows_not_3 (along_link l) = refl
  follows_not_3 (by_return t) = refl
  follows_not_3 (blocked why) = refl

  onward_not_3 : drop_by 3 (verdict v a (onward_plan v a way)) ≡ false
  unfolding onward_plan onward_tests known_tests verdict drop_by all_give ◌and◌
  onward_not_3 =
      not-true _ (all_first (λ todo. not (drop_by 3 (verdict v a todo))) (onward_tests v a way) (follows way) refl (ap not (follows_not_3 way)))

  plan_3 : (g : Verdict → Bool) → OfTest 3 g
      → g (verdict v a (plan v a)) ≡ (reaches_form v a and bad_form a.bytes and g (Drop (BadForm (failing a.bytes))))
  unfolding plan early_tests reaches_form verdict drop_by first_of ◌then◌otherwise◌ ◌and◌
  plan_3 g only = go (not_ours v a) (duplicate v a) (bad_form a.bytes) refl refl refl
    where
      go : (b c d : Bool) → not_ours v a ≡ b → duplicate v a ≡ c → bad_form a.bytes ≡ d
          → g (verdict v a (plan v a)) ≡ (reaches_form v a and bad_form a.bytes and g (Drop (BadForm (failing a.bytes))))
      go true c d e₁ e₂ e₃ = rw e₁ (only _ refl)
      go false true d e₁ e₂ e₃ = rw (e₁, e₂) (only _ refl)
      go false false true e₁ e₂ e₃ = rw (e₁, e₂, e₃) refl
      go false false false e₁ e₂ e₃ =
          rw (e₁, e₂, e₃)
          (either (λ todo. g (verdict v a todo) ≡ false) (own_announce v a) (λ _. only _ refl)
          (λ _. either (λ todo. g (verdict v a todo) ≡ false) (delivered_here v a) (λ _. only _ refl)
          (λ _. either (λ todo. g (verdict v a todo) ≡ false) (too_many_hops (hops a)) (λ _. only _ refl)
          (λ _. only (verdict v a (onward_plan v a way)) onward_not_3))))

  -- ---- number 6
  follows_not_6 : (w : Way) → no_way_on w ≡ false → drop_by 6 (verdict v a (follows w)) ≡ false
  unfolding verdict way_verdict spread_verdict no_way_on drop_by
  follows_not_6 (everywhere known) e = either (λ y. drop_by 6 y ≡ false) _ (λ _. refl) (λ _. refl)
  follows_not_6 (by_path p) e = refl
  follows_not_6 (along_link l) e = refl
  follows_not_6 (by_return t) e = refl
  follows_not_6 (blocked why) e = absurd (false≢true (sym e))

  onward_not_6 : no_way_on way ≡ false → drop_by 6 (verdict v a (onward_plan v a way)) ≡ false
  unfolding onward_plan onward_tests known_tests verdict drop_by all_give ◌and◌
  onward_not_6 e = not-true _ (second_on (λ todo. not (drop_by 6 (verdict v a todo))) (onward_tests v a way) (follows way) e refl (ap not (follows_not_6 way e)))

  module _ (g : Verdict → Bool) (only : OfTest 6 g) where
    abbrev here : Bool
    here = g (Drop (NoWayOn (why_blocked way)))

    onward_6 : g (verdict v a (onward_plan v a way)) ≡ (no_way_on way and here)
    unfolding onward_plan onward_tests known_tests verdict drop_by all_give first_of ◌then◌otherwise◌ ◌and◌
    onward_6 = go (no_way_on way) refl
      where
        go : (b : Bool) → no_way_on way ≡ b → g (verdict v a (onward_plan v a way)) ≡ (no_way_on way and here)
        go true e = rw e refl
        go false e = only (verdict v a (onward_plan v a way)) (onward_not_6 e) ∙ rw e refl

    plan_6 : g (verdict v a (plan v a)) ≡ (reaches_way v a and no_way_on way and here)
    unfolding early_tests verdict drop_by all_give
    plan_6 =
        early_decides g
        (and_both (ap not (only _ refl)) (and_both (ap not (only _ refl)) (and_both (ap not (only _ refl))
        (and_both (ap not (only _ refl)) (and_both (ap not (only _ refl)) (and_both (ap not (only _ refl)) refl))))))
        ∙ ap (reaches_way v a and◌) onward_6

  -- ---- test 6's cases
  module _ (k x : ℕ) where
    abbrev Told : Way → Type 0
    Told w = (no_way_on w and eqb (case_number (why_blocked w)) k and eqb (greatest_expiry (why_blocked w)) x) ≡ tells_from 1 k x (cases v a)

    announce_told : packet_kind (header a) ≡ 1 → (l : Bool) → of_kind_link (header a) ≡ l → (known : Slot Path) → Told (everywhere known)
    unfolding cases wants_path of_link is_ordinary_proof tells_from no_way_on why_blocked ◌then◌otherwise◌ ◌or◌ ◌and◌
    announce_told kind true l known = rw (kind, l) refl
    announce_told kind false l known = rw (kind, l) refl

    link_told : is_announce (header a) ≡ false → of_kind_link (header a) ≡ true → (s : Slot Link) → v.link (destination a) ≡ s
        → (b : Bool) → is_link_proof a.bytes ≡ b → Told (link_way b s)
    unfolding cases wants_path of_link is_ordinary_proof is_unproved is_there tells_from link_way no_way_on why_blocked ◌then◌otherwise◌ ◌or◌ ◌and◌
    link_told n l empty e b q = rw (n, l, e) refl
    link_told n l (used x₁) e b q = go x₁.proved b refl q
      where
        go : (c b : Bool) → x₁.proved ≡ c → is_link_proof a.bytes ≡ b → Told (x₁.proved or b then along_link x₁ otherwise blocked NotProved)
        go true b h q = rw (n, l, e, h) refl
        go false true h q = rw (n, l, e, h, q) refl
        go false false h q = rw (n, l, e, h, q) refl

    return_told : packet_kind (header a) ≡ 3 → of_kind_link (header a) ≡ false → (s : Slot Return) → v.return (destination a) ≡ s → Told (return_way s)
    unfolding cases wants_path of_link is_ordinary_proof is_there tells_from return_way no_way_on why_blocked ◌then◌otherwise◌ ◌or◌ ◌and◌
    return_told kind l empty e = rw (kind, l, e) refl
    return_told kind l (used t) e = rw (kind, l, e) refl

    -- data or a link request
    module _ (wants : wants_path a ≡ true) (l : of_kind_link (header a) ≡ false) (n : is_announce (header a) ≡ false) (m : is_proof (header a) ≡ false) where
      asking_told : type_two (header a) ≡ false → Told (blocked NotAsking)
      unfolding cases of_link is_ordinary_proof tells_from no_way_on why_blocked ◌then◌otherwise◌ ◌or◌ ◌and◌
      asking_told one = rw (wants, one) refl

      path_told : type_two (header a) ≡ true → (s : Slot Path) → v.path (destination a) ≡ s → (t : Slot ℕ) → v.expired (destination a) ≡ t
          → Told (path_way s t)
      unfolding cases of_link is_ordinary_proof is_there expiry_or0 tells_from path_way no_path no_way_on why_blocked ◌then◌otherwise◌ ◌or◌ ◌and◌
      path_told two (used p) e t f = rw (wants, two, e, l, m) refl
      path_told two empty e empty f = rw (wants, two, e, f) refl
      path_told two empty e (used expiry) f = rw (wants, two, e, f) refl

    wants_path_lem : is_announce (header a) ≡ false → of_kind_link (header a) ≡ false → is_proof (header a) ≡ false → wants_path a ≡ true
    unfolding wants_path ◌or◌ ◌and◌
    wants_path_lem n l m = rw l (go (is_data (header a)) refl)
      where
        go : (b : Bool) → is_data (header a) ≡ b → (is_data (header a) or is_link_request (header a)) ≡ true
        go true e = rw e refl
        go false e = rw e (is_request (header a) n m e)

    way_told : Told way
    unfolding way_on
    way_told =
        either Told _ (λ e. announce_told (eqb-true _ _ e) (of_kind_link (header a)) refl _)
        (λ n. either Told _ (λ l. link_told n l _ refl _ refl)
        (λ l. either Told _ (λ m. return_told (eqb-true _ _ m) l _ refl)
        (λ m. either Told _ (λ one. asking_told (wants_path_lem n l m) l n m (not-true _ one))
        (λ two. path_told (wants_path_lem n l m) l n m (not-false _ two) _ refl _ refl))))

  -- ---- of the verdict on an accepted packet
  abbrev given : Verdict
  given = verdict v a (plan v a)

  as_only : (n k x : ℕ) → OfTest n (drop_as n k x)
  unfolding drop_by drop_as
  as_only n k x (Drop reason) e = and_no _ e
  as_only n k x Deliver e = refl
  as_only n k x (Forward port length) e = refl
  as_only n k x (Spread ports length) e = refl
  as_only n k x Kept e = refl

  verdict_3 : drop_by 3 given ≡ (reaches_form v a and bad_form a.bytes)
  unfolding drop_by
  verdict_3 = plan_3 (drop_by 3) (λ y e. e) ∙ ap (reaches_form v a and◌) (and_true _)

  verdict_6 : drop_by 6 given ≡ (reaches_way v a and no_way_on way)
  unfolding drop_by
  verdict_6 = plan_6 (drop_by 6) (λ y e. e) ∙ ap (reaches_way v a and◌) (and_true _)

  clause_given : (k x : ℕ) → drop_as 3 (1 + k) x given ≡ tells_clause v a k x
  unfolding drop_as tells_clause ◌and◌
  clause_given k x =
      plan_3 (drop_as 3 (1 + k) x) (as_only 3 (1 + k) x)
      ∙ ap (reaches_form v a and◌) (form_told a.bytes (1 + k) x ∙ at_place 1 k x (clauses a.bytes))

  case_given : (k x : ℕ) → drop_as 6 (1 + k) x given ≡ tells_case v a k x
  unfolding drop_as tells_case ◌and◌
  case_given k x =
      plan_6 (drop_as 6 (1 + k) x) (as_only 6 (1 + k) x)
      ∙ ap (reaches_way v a and◌) (way_told (1 + k) x ∙ at_place 1 k x (cases v a))

-- ---- of every packet call. One that is refused tells none of it
module _ (a : Arrival) (r : Relay) (t : Tally) (output : List ℕ) where
  abbrev taken : Bool
  taken = eqb (packet_refusal r a (length output)) 0

  abbrev view : View
  view = view_at a.clock r

  answer_told : (f : Answer → Bool) (x : Bool) → ((n : ℕ) → f (Refused n) ≡ false) → f (Judged (verdict view a (plan view a))) ≡ x
      → f (packet_call a r t output).answer ≡ (taken and x)
  unfolding packet_call judge judged ◌then◌otherwise◌ ◌and◌
  answer_told f x refused e = go taken refl
    where
      go : (b : Bool) → taken ≡ b → f (packet_call a r t output).answer ≡ (taken and x)
      go true q = rw q e
      go false q = rw q (refused _)

  pub number_3 : dropped_by 3 (packet_call a r t output).answer ≡ (taken and reaches_form view a and bad_form a.bytes)
  unfolding dropped_by
  number_3 = answer_told (dropped_by 3) _ (λ n. refl) (verdict_3 view a)

  pub number_6 : dropped_by 6 (packet_call a r t output).answer ≡ (taken and reaches_way view a and no_way_on (way_on view a))
  unfolding dropped_by
  number_6 = answer_told (dropped_by 6) _ (λ n. refl) (verdict_6 view a)

  pub clause_told : (k x : ℕ) → dropped_as 3 (1 + k) x (packet_call a r t output).answer ≡ (taken and tells_clause view a k x)
  unfolding dropped_as
  clause_told k x = answer_told (dropped_as 3 (1 + k) x) _ (λ n. refl) (clause_given view a k x)

  pub case_told : (k x : ℕ) → dropped_as 6 (1 + k) x (packet_call a r t output).answer ≡ (taken and tells_case view a k x)
  unfolding dropped_as
  case_told k x = answer_told (dropped_as 6 (1 + k) x) _ (λ n. refl) (case_given view a k x)
