-- What the tests leave of a packet that follows a way: where the way's record was found, and which tests did not hold.
use Prim.Native.Nat.{ℕ, ◌%◌}
use native.Mathlib.Omega.{arith}
use mathlib.Core.Bool.{Bool, true, false, not, false≢true}
use mathlib.Core.Path.{◌≡◌, refl, sym, ap, subst, ◌∙◌}
use borrow.Author.Tests.{eq-eqb, eqb-false, not-true}
use Rattle.octets.specs.Choice.{◌or◌}
use Rattle.octets.proofs.Index.{and_left, and_right, and_both, and_yes}
use Rattle.packet.specs.Header.{of_kind_link, packet_kind, is_data, is_announce, is_link_request, is_proof}
use Rattle.octets.specs.Listed.{first_of}
use Rattle.rules.specs.Relay.{Slot, empty, used, Path, Return}
use Rattle.rules.specs.View.{View}
use Rattle.rules.specs.Arrival.{Arrival, hops, header, destination, hash, is_link_proof}
use Rattle.rules.specs.Ways.{Way, everywhere, by_path, along_link, by_return, blocked, path_way, link_way, return_way, way_on}
use Rattle.rules.specs.Tests.{for_marked_path, tested_as_duplicate, duplicate, too_many_hops, already_known}
use Rattle.rules.specs.Judging.{Plan, dropped, delivered, follows, early_tests, plan}
use Rattle.rules.specs.Writes.{remembers_plan, already_live, remembers}
use Rattle.rules.specs.declared.Link.{Link}
use Rattle.rules.proofs.Choices.{either}
use Rattle.rules.proofs.Passed.{passed}

-- the way's record is what the view shows of the packet's destination
abbrev pub Found : View → Arrival → Way → Type 0
Found v a (everywhere known) = v.path (destination a) ≡ known
Found v a (by_path p) =
    (v.path (destination a) ≡ used p) × (is_announce (header a) ≡ false) × (is_proof (header a) ≡ false) × (of_kind_link (header a) ≡ false)
Found v a (along_link l) = v.link (destination a) ≡ used l
Found v a (by_return t) = v.return (destination a) ≡ used t
Found v a (blocked why) = Unit {0}

pub record Followed (v : View) (a : Arrival) (w : Way) : Type 0 where
  pub found : Found v a w
  pub few_hops : too_many_hops (hops a) ≡ false
  pub unknown : already_known v a w ≡ false

-- what is neither announce, proof nor data is a link request
pub is_request : (h : ℕ) → is_announce h ≡ false → is_proof h ≡ false → is_data h ≡ false → is_link_request h ≡ true
unfolding packet_kind
is_request h announce proof data₀ =
    let n1 : h % 4 ≡ 1 → ⊥ = eqb-false _ _ announce in
    let n3 : h % 4 ≡ 3 → ⊥ = eqb-false _ _ proof in
    let n0 : h % 4 ≡ 0 → ⊥ = eqb-false _ _ data₀ in
    eq-eqb (h % 4) 2 (omega arith)

abbrev pub Planned : View → Arrival → Plan → Type 0
Planned v a (dropped reason) = Unit {0}
Planned v a delivered = Unit {0}
Planned v a (follows w) = Followed v a w

module _ (v : View) (a : Arrival) where
  found_path : is_announce (header a) ≡ false → is_proof (header a) ≡ false → of_kind_link (header a) ≡ false → (s : Slot Path) → v.path (destination a) ≡ s
      → (expired : Slot ℕ) → Found v a (path_way s expired)
  unfolding path_way
  found_path n m k empty e expired = tt
  found_path n m k (used p) e expired = (e, n, m, k)

  found_link : (s : Slot Link) → v.link (destination a) ≡ s → Found v a (link_way (is_link_proof a.bytes) s)
  unfolding link_way
  found_link empty e = tt
  found_link (used l) e = either (Found v a) (l.proved or is_link_proof a.bytes) (λ _. e) (λ _. tt)

  found_return : (s : Slot Return) → v.return (destination a) ≡ s → Found v a (return_way s)
  unfolding return_way
  found_return empty e = tt
  found_return (used t) e = e

  pub found_way : Found v a (way_on v a)
  unfolding way_on
  found_way =
      either (Found v a) _ (λ _. refl)
      (λ n. either (Found v a) _ (λ _. found_link _ refl)
      (λ k. either (Found v a) _ (λ _. found_return _ refl)
      (λ m. either (Found v a) _ (λ _. tt)
      (λ _. found_path n m k _ refl _))))

  pub planned : Planned v a (plan v a)
  planned = go (plan v a) refl
    where
      go : (todo : Plan) → plan v a ≡ todo → Planned v a todo
      go (dropped reason) e = tt
      go delivered e = tt
      go (follows w) e =
          let (way, p) = passed v a w e in
          record { found = subst (Found v a) way found_way; few_hops = p.few_hops; unknown = p.unknown }

  -- where the plan says so, the packet is no duplicate
  planned_new : remembers_plan (plan v a) ≡ true → duplicate v a ≡ false
  unfolding plan early_tests first_of remembers_plan
  planned_new =
      either (λ (todo : Plan). remembers_plan todo ≡ true → duplicate v a ≡ false) _ (λ _ h. absurd (false≢true h))
      (λ _. either (λ (todo : Plan). remembers_plan todo ≡ true → duplicate v a ≡ false) _ (λ _ h. absurd (false≢true h)) (λ new _. new))

  -- a hash that is now remembered was not remembered
  pub remembered_new : remembers v a (plan v a) ≡ true → v.remembered (hash a) ≡ false
  unfolding remembers already_live duplicate tested_as_duplicate
  remembered_new h = go (for_marked_path v a) refl
    where
      go : (b : Bool) → for_marked_path v a ≡ b → v.remembered (hash a) ≡ false
      go true e = sym (and_yes _ e) ∙ not-true _ (and_left _ _ (and_right _ _ h))
      go false e = sym (and_yes _ (and_both (and_left _ _ h) (ap not e))) ∙ planned_new (and_right _ _ (and_right _ _ h))
