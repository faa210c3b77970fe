-- A view that says nothing of ended paths: a packet is judged by it as by the whole view, but that 6.3 is answered as 6.2.
use Prim.Native.Nat.{ℕ, ◌+◌}
use mathlib.Core.Bool.{Bool, not}
use mathlib.Core.List.{List}
use mathlib.Core.Path.{◌≡◌, refl, sym, ap, ap₂, ◌∙◌}
use lib.Dec.{eqb, ltb}
use borrow.Author.Tests.{eqb-true}
use Rattle.octets.specs.Index.{◌and◌}
use Rattle.octets.specs.Choice.{◌then◌otherwise◌, ◌or◌}
use Rattle.octets.specs.Listed.{first_of, valued}
use Rattle.octets.proofs.Index.{and_left}
use Rattle.octets.proofs.Choice.{then_ap}
use Rattle.octets.proofs.Listed.{first_ap}
use Rattle.numbers.specs.Numbers.{hash_lifetime}
use Rattle.rules.specs.Relay.{Slot, empty, used, Path, Return}
use Rattle.rules.specs.View.{View}
use Rattle.rules.specs.Arrival.{Arrival, destination, hash, is_link_proof}
use Rattle.rules.specs.Exempt.{exempt}
use Rattle.rules.specs.Ways.{Way, everywhere, by_path, along_link, by_return, blocked, no_path, path_way, link_way, return_way, way_on}
use Rattle.rules.specs.Tests.{not_ours, for_marked_path, tested_as_duplicate, duplicate, own_announce, delivered_here, no_way_on, why_blocked, follows_proved_link, already_known, wrong_side, of_known, known_tests, leaving_port, port_off, too_long_for_port, no_room}
use Rattle.rules.specs.Answers.{case_number, reason_number}
use Rattle.rules.specs.Outgoing.{spread_ports, outgoing}
use Rattle.rules.specs.Judging.{Plan, dropped, delivered, follows, early_tests, onward_tests, onward_plan, plan, spread_verdict, way_verdict, verdict, leaves, output_after}
use Rattle.rules.specs.Writes.{remembers_plan, already_live, remembers, announced_rate, announced_path}
use Rattle.rules.specs.Run.{answered}
use Rattle.rules.specs.declared.Link.{Link}
use Rattle.rules.specs.declared.Blocked.{Blocked}
use Rattle.rules.specs.declared.Blocked.TheVariants.{NotAsking, NoPath, OnlyExpired, NoLink, NotProved, NoReturn}
use Rattle.rules.specs.declared.Reason.{Reason}
use Rattle.rules.specs.declared.Reason.TheVariants.{NoWayOn}
use Rattle.rules.specs.declared.Verdict.{Verdict}
use Rattle.rules.specs.declared.Verdict.TheVariants.{Drop, Kept}
use Rattle.rules.specs.declared.Answer.TheVariants.{Judged}
use Rattle.rules.proofs.Choices.{either}
use Rattle.history.specs.Known.{Known, now_until, now_clock, change_path}
use Rattle.history.specs.After.{after_way, limited_path, after_drop, after_plan, after_hash, after_packet}
use Rattle.history.specs.Opinion.{judged_by}
use Rattle.history.specs.SecondOpinion.{coarse_reason, coarse_verdict, coarse_answer, coarse}

unfoldable pub unexpired : View → View
unexpired v =
    record {
      own = v.own;
      rate = v.rate;
      on = v.on;
      mode = v.mode;
      size = v.size;
      local = v.local;
      remembered = v.remembered;
      path = v.path;
      expired = λ destination. empty;
      link = v.link;
      return = v.return;
      room_for_path = v.room_for_path;
      room_for_link = v.room_for_link;
    }

-- ---- 6.3 as 6.2, in a way and a plan
unfoldable coarse_why : Blocked → Blocked
coarse_why why = eqb (case_number why) 3 then NoPath otherwise why

unfoldable coarse_way : Way → Way
coarse_way (everywhere known) = everywhere known
coarse_way (by_path p) = by_path p
coarse_way (along_link l) = along_link l
coarse_way (by_return t) = by_return t
coarse_way (blocked why) = blocked (coarse_why why)

unfoldable coarse_plan : Plan → Plan
coarse_plan (dropped reason) = dropped (coarse_reason reason)
coarse_plan delivered = delivered
coarse_plan (follows w) = follows (coarse_way w)

why_coarse : (why : Blocked) → coarse_reason (NoWayOn why) ≡ NoWayOn (coarse_why why)
unfolding coarse_reason coarse_why ◌and◌ ◌then◌otherwise◌
why_coarse NotAsking = refl
why_coarse NoPath = refl
why_coarse (OnlyExpired expiry) = refl
why_coarse NoLink = refl
why_coarse NotProved = refl
why_coarse NoReturn = refl

-- ---- the way
path_coarse : (p : Slot Path) (expired : Slot ℕ) → coarse_way (path_way p expired) ≡ path_way p empty
unfolding path_way no_path coarse_way coarse_why ◌then◌otherwise◌
path_coarse empty empty = refl
path_coarse empty (used expiry) = refl
path_coarse (used p) expired = refl

link_coarse : (proof : Bool) (l : Slot Link) → coarse_way (link_way proof l) ≡ link_way proof l
unfolding link_way coarse_way coarse_why ◌then◌otherwise◌
link_coarse proof empty = refl
link_coarse proof (used l) = then_ap coarse_way (l.proved or proof) (along_link l) (blocked NotProved)

return_coarse : (t : Slot Return) → coarse_way (return_way t) ≡ return_way t
unfolding return_way coarse_way coarse_why ◌then◌otherwise◌
return_coarse empty = refl
return_coarse (used t) = refl

asking_coarse : coarse_way (blocked NotAsking) ≡ blocked NotAsking
unfolding coarse_way coarse_why ◌then◌otherwise◌
asking_coarse = refl

-- a choice of ways
choice : (t : Bool) (x y : Way) {x' y' : Way} → coarse_way x ≡ x' → coarse_way y ≡ y' → coarse_way (t then x otherwise y) ≡ (t then x' otherwise y')
choice t x y e f = then_ap coarse_way t x y ∙ ap₂ (λ (w z : Way). t then w otherwise z) e f

module _ (v : View) (a : Arrival) where
  way_coarse : coarse_way (way_on v a) ≡ way_on (unexpired v) a
  unfolding way_on unexpired coarse_way coarse_why
  way_coarse =
      choice _ _ _ refl
      (choice _ _ _ (link_coarse (is_link_proof a.bytes) (v.link (destination a)))
      (choice _ _ _ (return_coarse (v.return (destination a)))
      (choice _ _ _ asking_coarse (path_coarse (v.path (destination a)) (v.expired (destination a))))))

  onward_coarse : (w : Way) → coarse_plan (onward_plan v a w) ≡ onward_plan (unexpired v) a (coarse_way w)
  unfolding onward_plan onward_tests first_of valued coarse_plan coarse_way coarse_reason no_way_on why_blocked follows_proved_link already_known wrong_side
      known_tests of_known leaving_port port_off too_long_for_port outgoing no_room unexpired ◌then◌otherwise◌ ◌and◌
  onward_coarse (everywhere empty) = first_ap coarse_plan (onward_tests v a (everywhere empty)) (follows (everywhere empty))
  onward_coarse (everywhere (used p)) = first_ap coarse_plan (onward_tests v a (everywhere (used p))) (follows (everywhere (used p)))
  onward_coarse (by_path p) = first_ap coarse_plan (onward_tests v a (by_path p)) (follows (by_path p))
  onward_coarse (along_link l) = first_ap coarse_plan (onward_tests v a (along_link l)) (follows (along_link l))
  onward_coarse (by_return t) = first_ap coarse_plan (onward_tests v a (by_return t)) (follows (by_return t))
  onward_coarse (blocked why) = ap dropped (why_coarse why)

  plan_coarse : coarse_plan (plan v a) ≡ plan (unexpired v) a
  unfolding plan early_tests valued coarse_plan coarse_reason not_ours for_marked_path tested_as_duplicate duplicate own_announce delivered_here unexpired
      ◌then◌otherwise◌ ◌and◌
  plan_coarse =
      first_ap coarse_plan (early_tests v a) (onward_plan v a (way_on v a))
      ∙ ap (first_of (early_tests (unexpired v) a)) (onward_coarse (way_on v a) ∙ ap (onward_plan (unexpired v) a) way_coarse)

  -- ---- what is answered
  verdict_coarse : (todo : Plan) → verdict (unexpired v) a (coarse_plan todo) ≡ coarse_verdict (verdict v a todo)
  unfolding verdict way_verdict spread_verdict spread_ports outgoing coarse_plan coarse_way coarse_verdict unexpired
  verdict_coarse (dropped reason) = refl
  verdict_coarse delivered = refl
  verdict_coarse (follows (everywhere known)) = sym (then_ap coarse_verdict _ Kept _)
  verdict_coarse (follows (by_path p)) = refl
  verdict_coarse (follows (along_link l)) = refl
  verdict_coarse (follows (by_return t)) = refl
  verdict_coarse (follows (blocked why)) = ap Drop (sym (why_coarse why))

  output_coarse : (todo : Plan) (output : List ℕ) → output_after (unexpired v) a (coarse_plan todo) output ≡ output_after v a todo output
  unfolding output_after way_verdict spread_ports outgoing leaves coarse_plan coarse_way unexpired ◌then◌otherwise◌
  output_coarse (dropped reason) output = refl
  output_coarse delivered output = refl
  output_coarse (follows (everywhere known)) output = refl
  output_coarse (follows (by_path p)) output = refl
  output_coarse (follows (along_link l)) output = refl
  output_coarse (follows (by_return t)) output = refl
  output_coarse (follows (blocked why)) output = refl

  pub judged_coarse : (output : List ℕ)
      → judged_by (unexpired v) a output ≡ coarse (answered (Judged (verdict v a (plan v a))) (output_after v a (plan v a) output))
  unfolding judged_by coarse coarse_answer
  judged_coarse output =
      ap (λ (todo : Plan). answered (Judged (verdict (unexpired v) a todo)) (output_after (unexpired v) a todo output)) (sym plan_coarse)
      ∙ ap₂ (λ (x : Verdict) (after : List ℕ). answered (Judged x) after) (verdict_coarse (plan v a)) (output_coarse (plan v a) output)

  -- ---- what is known then
  number_coarse : (reason : Reason) → reason_number (coarse_reason reason) ≡ reason_number reason
  unfolding coarse_reason
  number_coarse reason =
      either (λ (x : Reason). reason_number x ≡ reason_number reason) _ (λ e. sym (eqb-true (reason_number reason) 6 (and_left _ _ e))) (λ _. refl)

  remembers_coarse : (todo : Plan) → remembers (unexpired v) a (coarse_plan todo) ≡ remembers v a todo
  unfolding remembers already_live for_marked_path remembers_plan coarse_plan unexpired
  remembers_coarse (dropped reason) =
      ap (λ (n : ℕ). not (exempt a.bytes) and not (already_live v a) and ltb 2 n) (number_coarse reason)
  remembers_coarse delivered = refl
  remembers_coarse (follows w) = refl

  plan_then : (todo : Plan) (k : Known) → after_plan (unexpired v) a (coarse_plan todo) k ≡ after_plan v a todo k
  unfolding after_plan after_drop after_way limited_path announced_path announced_rate coarse_plan coarse_way unexpired
  plan_then (dropped reason) k =
      ap (λ (n : ℕ). eqb n 15 then change_path (destination a) (limited_path v a) k otherwise k) (number_coarse reason)
  plan_then delivered k = refl
  plan_then (follows (everywhere empty)) k = refl
  plan_then (follows (everywhere (used p))) k = refl
  plan_then (follows (by_path p)) k = refl
  plan_then (follows (along_link l)) k = refl
  plan_then (follows (by_return t)) k = refl
  plan_then (follows (blocked why)) k = refl

  pub known_coarse : (k : Known) → after_packet (unexpired v) a (plan (unexpired v) a) k ≡ after_packet v a (plan v a) k
  unfolding after_packet after_hash
  known_coarse k =
      ap (λ (todo : Plan). after_packet (unexpired v) a todo k) (sym plan_coarse)
      ∙ ap₂ (λ (b : Bool) (after : Known). b then now_until (hash a) (a.clock + hash_lifetime) (now_clock a.clock after) otherwise now_clock a.clock after)
      (remembers_coarse (plan v a)) (plan_then (plan v a) k)
