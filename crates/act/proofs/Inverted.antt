-- What a decision says: the plan behind it, and the record at its place.
use Prim.Native.Nat.{ℕ, ◌≤◌, ◌<◌}
use native.Mathlib.Omega.{arith}
use mathlib.Core.Bool.{Bool, true, false, false≢true}
use mathlib.Core.Path.{◌≡◌, refl, sym, subst}
use lib.Dec.{ltb}
use borrow.Author.Tests.{ltb-true, ltb-false}
use Rattle.packet.specs.Header.{is_data}
use Rattle.packet.specs.Hash.{link_id}
use Rattle.rules.specs.Relay.{Slot, empty, used, Path, Return, Relay}
use Rattle.rules.specs.View.{View, view_at, path_place, link_place, return_place, free_link}
use Rattle.rules.specs.Arrival.{Arrival, header, destination}
use Rattle.rules.specs.Ways.{everywhere, by_path, along_link, by_return, blocked}
use Rattle.rules.specs.Tests.{is_there, no_way_on, leaving_port}
use Rattle.rules.specs.Judging.{Plan, dropped, delivered, follows, plan}
use Rattle.rules.specs.Writes.{announced_place}
use Rattle.rules.specs.declared.Link.{Link}
use Rattle.rules.proofs.Choices.{either}
use Rattle.rules.proofs.Passed.{passed}
use Rattle.plan.specs.declared.Decision.{Decision}
use Rattle.plan.specs.declared.Decision.TheVariants.{Drop, Deliver, Announce, Data, Request, Carry, Receipt}
use Rattle.plan.specs.Decided.{decided_way, decided, decision}

-- ---- the plan behind a decision
module _ (r : Relay) (a : Arrival) where
  abbrev view : View
  view = view_at a.clock r

  abbrev pub Inverted : Decision → Type 0
  Inverted (Drop reason) = plan view a ≡ dropped reason
  Inverted Deliver = plan view a ≡ delivered
  Inverted (Announce place known) =
      (s : Slot Path) × (plan view a ≡ follows (everywhere s)) × (place ≡ announced_place a s r) × (is_there s ≡ known)
  Inverted (Data i) =
      (p : Path) × (plan view a ≡ follows (by_path p)) × (is_data (header a) ≡ true) × (i ≡ path_place a.clock r (destination a))
  Inverted (Request i place id) =
      (p : Path) × (plan view a ≡ follows (by_path p)) × (is_data (header a) ≡ false) × (i ≡ path_place a.clock r (destination a))
      × (place ≡ free_link a.clock r) × (id ≡ link_id a.bytes)
  Inverted (Carry i port) =
      (l : Link) × (plan view a ≡ follows (along_link l)) × (i ≡ link_place a.clock r (destination a)) × (port ≡ leaving_port a (along_link l))
  Inverted (Receipt i port) =
      (t : Return) × (plan view a ≡ follows (by_return t)) × (i ≡ return_place a.clock r (destination a)) × (port ≡ leaving_port a (by_return t))

  inverted_plan : (todo : Plan) → plan view a ≡ todo → Inverted (decided r a todo)
  unfolding decided decided_way no_way_on
  inverted_plan (dropped reason) e = e
  inverted_plan delivered e = e
  inverted_plan (follows (everywhere s)) e = (s, e, refl, refl)
  inverted_plan (follows (by_path p)) e =
      either Inverted (is_data (header a)) (λ yes. (p, e, yes, refl)) (λ no. (p, e, no, refl, refl, refl))
  inverted_plan (follows (along_link l)) e = (l, e, refl, refl)
  inverted_plan (follows (by_return t)) e = (t, e, refl, refl)
  inverted_plan (follows (blocked why)) e = absurd (false≢true (sym (passed view a (blocked why) e).1.some_way))

  pub inverted : (d : Decision) → decision r a ≡ d → Inverted d
  unfolding decision
  inverted d e = subst Inverted e (inverted_plan (plan view a) refl)

-- ---- the record that a search found, at its place
pub at_place : {A : Type 0} {s : Slot A} {x y : A} (i n : ℕ) → s ≡ used x → (i < n → s ≡ used y) → (n ≤ i → s ≡ empty) → (i < n) × (x ≡ y)
at_place {A} {s} {x} {y} i n there found missing = go (ltb i n) refl
  where
    go : (b : Bool) → ltb i n ≡ b → (i < n) × (x ≡ y)
    go true q = let f : s ≡ used y = found (ltb-true i n q) in let m : x ≡ y = cc in (ltb-true i n q, m)
    go false q = let f : s ≡ empty = missing (ltb-false i n q) in let z : ◌≡◌ {A = ℕ} 0 1 = cc in absurd (omega arith)
