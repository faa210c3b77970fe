-- Tests 1 to 5: each of their answers, and what they leave to decide.
use Prim.Native.Nat.{ℕ}
use mathlib.Core.Bool.{Bool, true, false, not, false≢true}
use mathlib.Core.List.{List, [], ◌∷◌}
use Rattle.std.specs.Prelude.{Option, Some, None}
use mathlib.Core.Path.{◌≡◌, refl, sym, ap, subst}
use Rattle.octets.specs.Index.{◌and◌}
use Rattle.octets.specs.Choice.{◌then◌otherwise◌, ◌or◌, same}
use Rattle.octets.proofs.Index.{and_left, and_right}
use lib.Dec.{ltb}
use Rattle.packet.specs.Header.{type_two, of_kind_link, is_data, is_announce, is_link_request}
use Rattle.numbers.specs.Numbers.{hash_count}
use Rattle.octets.specs.Listed.{Test, first_of, valued}
use Rattle.octets.proofs.Listed.{all_give}
use Rattle.rules.specs.Relay.{Relay}
use Rattle.rules.specs.View.{View, hash_place, is_local, view_at}
use Rattle.rules.specs.Arrival.{Arrival, header, hops, relay_address, destination, hash}
use Rattle.rules.specs.Exempt.{exempt}
use Rattle.rules.specs.Tests.{not_ours, for_marked_path, tested_as_duplicate, duplicate, bad_form, failing, own_announce, delivered_here, too_many_hops}
use Rattle.rules.specs.Ways.{way_on}
use Rattle.rules.specs.Judging.{Plan, dropped, delivered, follows, early_tests, onward_plan, plan}
use Rattle.rules.specs.declared.Reason.TheVariants.{NotOurs, Duplicate, BadForm, OwnAnnounce, TooManyHops}
use Rattle.octets.proofs.Listed.{NoneHolds}
use Rattle.rules.proofs.Passed.{stops}
use Rattle.outgoing.proofs.Steps.{reading}
use Rattle.forms.proofs.FormLaws.{form_bad, form_good}
use Rattle.lookup.proofs.Found.{answers}
use Rattle.plan.proofs.ContextLaws.{used_own}
use Rattle.plan.proofs.MarkedLaws.{live_clauses}
use Rattle.plan.specs.First.{early, first_tests}
use Rattle.plan.specs.Decided.{decided, decision, onward}
use Rattle.plan.specs.declared.Decision.{Decision}
use Rattle.plan.specs.declared.Decision.TheVariants.{Drop, Deliver}

-- ---- what the answers decide
-- what a first answer says of the plan
Said : List (Test Plan) → Plan → Plan → Option Decision → Type 0
Said ts rest todo (Some d) = (r : Relay) (a : Arrival) → decided r a todo ≡ d
Said ts rest todo None = (todo ≡ rest) × NoneHolds ts

said : (ts : List (Test Plan)) (rest : Plan) → all_give stops ts ≡ true → Said ts rest (first_of ts rest) (first_of (valued early ts) None)
unfolding Said early stops decided first_of valued all_give ◌then◌otherwise◌
said [] rest g = (refl, tt)
said (t ∷ ts) rest g = go t.holds refl t.value (and_left _ _ g) (first_of (valued early ts) None) (said ts rest (and_right _ _ g))
  where
    go : (b : Bool) → t.holds ≡ b → (x : Plan) → stops x ≡ true → (y : Option Decision) → Said ts rest (first_of ts rest) y
        → Said (t ∷ ts) rest (b then x otherwise first_of ts rest) (b then early x otherwise y)
    go true q (dropped reason) h y below = λ r a. refl
    go true q delivered h y below = λ r a. refl
    go true q (follows w) h y below = absurd (false≢true h)
    go false q x h (Some d) below = below
    go false q x h None below = (below.0, (q, below.1))

module _ (r : Relay) (a : Arrival) where
  rest : Plan
  rest = onward_plan (view_at a.clock r) a (way_on (view_at a.clock r) a)

  early_said : (x : Option Decision) → x ≡ first_tests (view_at a.clock r) a
      → Said (early_tests (view_at a.clock r) a) rest (plan (view_at a.clock r) a) x
  unfolding plan rest first_tests early_tests all_give stops ◌and◌
  early_said x e =
      subst (Said (early_tests (view_at a.clock r) a) rest (plan (view_at a.clock r) a)) (sym e)
      (said (early_tests (view_at a.clock r) a) rest refl)

  pub first_decides : (d : Decision) → Some d ≡ first_tests (view_at a.clock r) a → decision r a ≡ d
  unfolding Said decision
  first_decides d e = early_said (Some d) e r a

  pub first_goes_on : None ≡ first_tests (view_at a.clock r) a → (decision r a ≡ onward r a) × (bad_form a.bytes ≡ false)
  unfolding Said decision decided onward rest early_tests
  first_goes_on e =
      let (same, none) = early_said None e in
      (ap (decided r a) same, none.1.1.0)

-- ---- the tests as the code makes them
module _ (clock : ℕ) (r : Relay) (a : Arrival) where
  pub ours_clauses : not_ours (view_at clock r) a ≡ (type_two (header a) and not (is_announce (header a)) and not (same (relay_address a) r.own))
  unfolding not_ours view_at
  ours_clauses = refl

  pub duplicate_clauses : duplicate (view_at clock r) a
      ≡ ((not (exempt a.bytes) and not (for_marked_path (view_at clock r) a)) and ltb (hash_place clock r (hash a)) hash_count)
  unfolding duplicate tested_as_duplicate view_at
  duplicate_clauses = refl

  pub own_clauses : own_announce (view_at clock r) a ≡ (is_announce (header a) and is_local r (destination a))
  unfolding own_announce view_at
  own_clauses = refl

  pub here_clauses : delivered_here (view_at clock r) a
      ≡ ((is_data (header a) or is_link_request (header a)) and not (of_kind_link (header a)) and is_local r (destination a))
  unfolding delivered_here view_at
  here_clauses = refl

pub first_clauses : (v : View) (a : Arrival) → first_tests v a
    ≡ (not_ours v a then Some (Drop NotOurs) otherwise
    duplicate v a then Some (Drop Duplicate) otherwise
    bad_form a.bytes then Some (Drop (BadForm (failing a.bytes))) otherwise
    own_announce v a then Some (Drop OwnAnnounce) otherwise
    delivered_here v a then Some Deliver otherwise
    too_many_hops (hops a) then Some (Drop TooManyHops) otherwise
    None)
unfolding first_tests first_of valued early early_tests
first_clauses v a = refl

pub ruleset first_steps = (ours_clauses, live_clauses, duplicate_clauses, own_clauses, here_clauses, first_clauses, form_bad, form_good, used_own, reading, answers)
