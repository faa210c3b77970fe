-- Which packets reach test 15, and what becomes of them: the plan with what that test says given.
use Prim.Native.Nat.{ℕ}
use native.Mathlib.Omega.{arith}
use mathlib.Core.Bool.{Bool, true, false, not, false≢true}
use mathlib.Core.List.{List}
use mathlib.Core.Path.{◌≡◌, refl, sym, ap, subst, ◌∙◌}
use lib.Dec.{eqb}
use lib.ListN.{length}
use borrow.Author.Tests.{not-true}
use Rattle.octets.specs.Index.{◌and◌}
use Rattle.octets.specs.Choice.{◌then◌otherwise◌, ◌or◌}
use Rattle.octets.specs.Listed.{◌gives◌otherwise◌, first_of}
use Rattle.octets.proofs.Index.{and_no}
use Rattle.octets.proofs.Choice.{then_true}
use Rattle.octets.proofs.Listed.{told, all_give, NoneHolds, none_first, none_holds, all_first}
use Rattle.packet.specs.Header.{is_announce}
use Rattle.rules.specs.Relay.{Slot, empty, used, Path, Return, Relay}
use Rattle.rules.specs.View.{View, view_at}
use Rattle.rules.specs.Refusals.{packet_refusal}
use Rattle.rules.specs.Arrival.{Arrival, header, destination, is_link_proof}
use Rattle.rules.specs.Ways.{Way, everywhere, by_path, along_link, by_return, blocked, path_way, link_way, return_way, way_on}
use Rattle.rules.specs.Tests.{of_known, is_rate_limited, known_tests, port_off, too_long_for_port, no_room}
use Rattle.rules.specs.Judging.{Plan, dropped, follows, early_tests, onward_tests, onward_plan, plan, verdict}
use Rattle.rules.specs.Calls.{Judgement, judged, judge, packet_call}
use Rattle.rules.specs.Questions.{of_test}
use Rattle.rules.specs.Run.{packet, answered, of_judgement, perform}
use Rattle.rules.specs.Chatty.{rate_says, plan_if, RateDrop}
use Rattle.rules.specs.declared.Link.{Link}
use Rattle.rules.specs.declared.Reason.TheVariants.{RateLimited}
use Rattle.rules.specs.declared.Verdict.TheVariants.{Drop}
use Rattle.rules.specs.declared.Tally.{Tally}
use Rattle.rules.proofs.Choices.{either}
use Rattle.octets.proofs.JoinedTests.{before, behind, none_before}
use Rattle.rules.proofs.Passed.{none_held, names_test, names_test_lem}
use Rattle.rules.proofs.SignatureWord.{told_never}

-- the way is an announce's
unfoldable pub is_spread : Way → Bool
is_spread (everywhere known) = true
is_spread (by_path p) = false
is_spread (along_link l) = false
is_spread (by_return t) = false
is_spread (blocked why) = false

-- what test 15 says of a way
abbrev pub rate_limited : View → Arrival → Way → Bool
rate_limited v a w = of_known a (is_rate_limited v a) w

module _ (v : View) (a : Arrival) where
  -- ---- the plan is the one with what test 15 does say
  pub plan_if_lem : plan v a ≡ plan_if (rate_limited v a (way_on v a)) v a
  unfolding plan onward_plan plan_if rate_says onward_tests known_tests of_test ◌then◌otherwise◌
  plan_if_lem = refl

  -- the tests before it let the packet by
  pub record Reaches : Type 0 where
    pub early : NoneHolds (early_tests v a)
    pub onward : NoneHolds (before (of_test 15) (onward_tests v a (way_on v a)))

  -- what is left is test 15 and those behind it
  pub from_rate : Reaches → (b : Bool)
      → plan_if b v a ≡ first_of (b gives dropped RateLimited otherwise behind (of_test 15) (onward_tests v a (way_on v a))) (follows (way_on v a))
  unfolding plan_if rate_says onward_tests known_tests before behind first_of of_test ◌then◌otherwise◌
  from_rate h b = none_first (early_tests v a) _ h.early ∙ none_first (before (of_test 15) (onward_tests v a (way_on v a))) _ h.onward

  pub reaches : of_test 15 (plan_if true v a) ≡ true → Reaches
  unfolding plan_if rate_says early_tests onward_tests known_tests before first_of all_give of_test ◌and◌ ◌then◌otherwise◌
  reaches h =
      let other : Plan → Bool = λ todo. not (of_test 15 todo) in
      let early : NoneHolds (early_tests v a) = none_holds other (early_tests v a) _ refl (ap not h) in
      let on = sym (ap (of_test 15) (none_first (early_tests v a) _ early)) ∙ h in
      record { early = early; onward = none_holds other (before (of_test 15) (onward_tests v a (way_on v a))) (dropped RateLimited) refl (ap not on) }

  reached : Reaches → of_test 15 (plan_if true v a) ≡ true
  unfolding first_of of_test ◌then◌otherwise◌
  reached h = ap (of_test 15) (from_rate h true)

  -- what follows a way has reached it
  pub follows_reached : (w : Way) → plan v a ≡ follows w → of_test 15 (plan_if true v a) ≡ true
  follows_reached w e =
      let (way, early, late) = none_held v a w e in
      let onward = none_before (of_test 15) (onward_tests v a w) late in
      reached (record { early = early; onward = subst (λ (x : Way). NoneHolds (before (of_test 15) (onward_tests v a x))) (sym way) onward })

  -- where it doesn't hold, it drops nothing
  never_dropped : of_test 15 (plan_if false v a) ≡ false
  unfolding plan_if rate_says told early_tests onward_tests known_tests all_give of_test ◌and◌ ◌then◌otherwise◌
  never_dropped =
      not-true _
      (all_first (λ x. not (of_test 15 x)) (early_tests v a) _ refl
      (ap not (told_never (of_test 15) (onward_tests v a (way_on v a)) (follows (way_on v a)) refl)))

  -- what it drops has reached it, and it holds
  pub dropped_reached : of_test 15 (plan v a) ≡ true → (rate_limited v a (way_on v a) ≡ true) × (of_test 15 (plan_if true v a) ≡ true)
  dropped_reached h = go (rate_limited v a (way_on v a)) refl
    where
      go : (b : Bool) → rate_limited v a (way_on v a) ≡ b → (b ≡ true) × (of_test 15 (plan_if true v a) ≡ true)
      go true e = (refl, sym (ap (λ (b : Bool). of_test 15 (plan_if b v a)) e) ∙ sym (ap (of_test 15) plan_if_lem) ∙ h)
      go false e =
          absurd (false≢true (sym never_dropped ∙ sym (ap (λ (b : Bool). of_test 15 (plan_if b v a)) e) ∙ sym (ap (of_test 15) plan_if_lem) ∙ h))

  -- ---- only announces go everywhere, and only of their ways can a test of a known path hold
  path_not : (s : Slot Path) (expired : Slot ℕ) → is_spread (path_way s expired) ≡ false
  unfolding is_spread path_way
  path_not empty expired = refl
  path_not (used p) expired = refl

  link_not : (s : Slot Link) → is_spread (link_way (is_link_proof a.bytes) s) ≡ false
  unfolding is_spread link_way
  link_not empty = refl
  link_not (used l) = either (λ (w : Way). is_spread w ≡ false) (l.proved or is_link_proof a.bytes) (λ _. refl) (λ _. refl)

  return_not : (s : Slot Return) → is_spread (return_way s) ≡ false
  unfolding is_spread return_way
  return_not empty = refl
  return_not (used t) = refl

  pub spread_announce : is_spread (way_on v a) ≡ true → is_announce (header a) ≡ true
  unfolding way_on is_spread
  spread_announce =
      either So _ (λ e _. e)
      (λ _. either So _ (λ _ h. absurd (false≢true (sym (link_not _) ∙ h)))
      (λ _. either So _ (λ _ h. absurd (false≢true (sym (return_not _) ∙ h)))
      (λ _. either So _ (λ _ h. absurd (false≢true h)) (λ _ h. absurd (false≢true (sym (path_not _ _) ∙ h))))))
    where
      So : Way → Type 0
      So w = is_spread w ≡ true → is_announce (header a) ≡ true

  pub announce_way : is_announce (header a) ≡ true → way_on v a ≡ everywhere (v.path (destination a))
  unfolding way_on
  announce_way e = then_true _ _ e

  pub known_spread : (test : Path → Bool) (w : Way) → of_known a test w ≡ true → is_spread w ≡ true
  unfolding of_known is_spread
  known_spread test (everywhere known) h = refl
  known_spread test (by_path p) h = h
  known_spread test (along_link l) h = h
  known_spread test (by_return t) h = h
  known_spread test (blocked why) h = h

  -- an announce of a known path that gets past test 15 is accepted
  pub past_rate : (p : Path) → is_announce (header a) ≡ true → v.path (destination a) ≡ used p → rate_limited v a (way_on v a) ≡ false → Reaches
      → plan v a ≡ follows (everywhere (used p))
  unfolding onward_tests known_tests behind of_test first_of ◌then◌otherwise◌ port_off too_long_for_port no_room
  past_rate p announce known off h =
      plan_if_lem
      ∙ ap (λ (b : Bool). plan_if b v a) off
      ∙ from_rate h false
      ∙ ap (λ (w : Way). first_of (behind (of_test 15) (onward_tests v a w)) (follows w)) (announce_way announce ∙ ap everywhere known)
      ∙ none_first (behind (of_test 15) (onward_tests v a (everywhere (used p)))) _
      (and_no _ (ap not announce), (and_no _ (ap not announce), (refl, tt)))

-- ---- a reply that names test 15 is of an accepted packet that it drops
module _ (a : Arrival) (output : List ℕ) (r : Relay) (t : Tally) where
  pub rate_dropped : (room : List ℕ) → (perform (packet a output) r t).reply ≡ RateDrop room
      → (eqb (packet_refusal r a (length output)) 0 ≡ true) × (of_test 15 (plan (view_at a.clock r) a) ≡ true)
  unfolding perform of_judgement packet_call judge judged names_test
  rate_dropped room =
      either So (eqb (packet_refusal r a (length output)) 0)
      (λ e says.
      let says-verdict : verdict (view_at a.clock r) a (plan (view_at a.clock r) a) ≡ Drop RateLimited = cc in
      (e, sym (names_test_lem (view_at a.clock r) a 15 refl _) ∙ ap (names_test 15) says-verdict))
      (λ e says. let z : ◌≡◌ {A = ℕ} 0 1 = cc in absurd (omega arith))
    where
      So : Judgement → Type 0
      So j =
          answered j.answer j.output ≡ RateDrop room
          → (eqb (packet_refusal r a (length output)) 0 ≡ true) × (of_test 15 (plan (view_at a.clock r) a) ≡ true)
