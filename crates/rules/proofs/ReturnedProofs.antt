-- Wish 7: of an ordinary proof tests 7, 9, 10, 11, 15 and 13 never hold, so tests 1 to 5, the live return record, the port where it came in and test 12 decide.
-- Shown of every relay.
use Prim.Native.Nat.{ℕ}
use native.Mathlib.Omega.{arith}
use mathlib.Core.Bool.{Bool, true, false, not}
use mathlib.Core.List.{List}
use mathlib.Core.Path.{◌≡◌, refl, sym, ap, ◌∙◌}
use lib.Dec.{eqb}
use borrow.Author.Tests.{eqb-true, not-true}
use Rattle.octets.specs.Index.{◌and◌}
use Rattle.octets.specs.Choice.{◌then◌otherwise◌}
use Rattle.octets.specs.Listed.{first_of}
use Rattle.octets.proofs.Index.{and_left, and_right, and_no, and_false}
use Rattle.octets.proofs.Choice.{or_no}
use Rattle.octets.proofs.Listed.{all_give}
use Rattle.packet.specs.Header.{of_kind_link, packet_kind, is_announce}
use Rattle.rules.specs.Relay.{Slot, empty, used, Return, Relay}
use Rattle.rules.specs.View.{View, view_at}
use Rattle.rules.specs.Arrival.{Arrival, header, destination, is_link_proof}
use Rattle.rules.specs.Ways.{Way, by_return, return_way, way_on}
use Rattle.rules.specs.Tests.{delivered_here, no_way_on, already_known, wrong_side, not_signed, of_known, known_tests, leaving_port, port_off, too_long_for_port, no_room}
use Rattle.rules.specs.Answers.{verdict_kind}
use Rattle.rules.specs.Judging.{Plan, dropped, delivered, follows, early_tests, onward_tests, onward_plan, plan, way_verdict, verdict}
use Rattle.rules.specs.Reasons.{reaches_way, is_ordinary_proof}
use Rattle.rules.specs.OldAnnounces.{OfPacket, FromFresh, says_forwarded, goes_back, ProofReturns}
use Rattle.rules.specs.declared.Verdict.{Verdict}
use Rattle.rules.specs.declared.Verdict.TheVariants.{Forward}
use Rattle.rules.specs.declared.Tally.{Tally}
use Rattle.rules.proofs.Passed.{passed}
use Rattle.rules.proofs.Held.{judged_reply}
use Rattle.rules.proofs.Reasons.{early_decides}

unfoldable is_forwarded : Verdict → Bool
is_forwarded verdict = eqb (verdict_kind verdict) 3

-- the same tests in another order
in_order : (early side on : Bool) → (early and side and on) ≡ (side and early and on)
unfolding ◌and◌
in_order true side on = refl
in_order false side on = sym (and_false side)

module _ (v : View) (a : Arrival) (ordinary : is_ordinary_proof a ≡ true) where
  -- ---- it is no other packet
  kind_three : packet_kind (header a) ≡ 3
  unfolding is_ordinary_proof
  kind_three = eqb-true _ _ (and_right _ _ ordinary)

  not_link : of_kind_link (header a) ≡ false
  unfolding is_ordinary_proof
  not_link = not-true _ (and_left _ _ ordinary)

  no_announce : is_announce (header a) ≡ false
  no_announce = ap (λ (n : ℕ). eqb n 1) kind_three

  no_link_proof : is_link_proof a.bytes ≡ false
  unfolding is_link_proof ◌and◌
  no_link_proof = rw (not_link, kind_three) refl

  -- what `reaches_way` says besides tests 1 to 5
  pub proof_not_delivered : delivered_here v a ≡ false
  unfolding delivered_here
  proof_not_delivered = and_no _ (or_no (ap (λ (n : ℕ). eqb n 0) kind_three) (ap (λ (n : ℕ). eqb n 2) kind_three))

  way_is : way_on v a ≡ return_way (v.return (destination a))
  unfolding way_on ◌then◌otherwise◌
  way_is = rw (kind_three, not_link) refl

  unknown : (w : Way) → already_known v a w ≡ false
  unfolding already_known
  unknown w = or_no (and_no _ (ap (λ (n : ℕ). eqb n 2) kind_three)) (and_no _ no_link_proof)

  is_signed : not_signed a ≡ false
  unfolding not_signed
  is_signed = and_no _ (or_no no_announce no_link_proof)

  -- ---- tests 6 to 13
  onward_is : (t : Return)
      → is_forwarded (verdict v a (onward_plan v a (by_return t)))
      ≡ (eqb a.port t.leaving and not (port_off v a (by_return t)) and not (too_long_for_port v a (by_return t)))
  unfolding onward_plan onward_tests first_of no_way_on wrong_side known_tests of_known no_room verdict way_verdict is_forwarded
      ◌then◌otherwise◌ ◌and◌
  onward_is t = go (eqb a.port t.leaving) (port_off v a (by_return t)) (too_long_for_port v a (by_return t)) refl refl refl
    where
      go : (b c d : Bool) → eqb a.port t.leaving ≡ b → port_off v a (by_return t) ≡ c → too_long_for_port v a (by_return t) ≡ d
          → is_forwarded (verdict v a (onward_plan v a (by_return t))) ≡ (b and not c and not d)
      go false c d e f g = rw (unknown (by_return t), e) refl
      go true true d e f g = rw (unknown (by_return t), e, is_signed, f) refl
      go true false true e f g = rw (unknown (by_return t), e, is_signed, f, g) refl
      go true false false e f g = rw (unknown (by_return t), e, is_signed, f, g) refl

  -- .. with those before: without a record test 6 holds
  decided : (s : Slot Return) → (reaches_way v a and is_forwarded (verdict v a (onward_plan v a (return_way s)))) ≡ goes_back v a s
  unfolding return_way goes_back onward_plan onward_tests first_of no_way_on verdict is_forwarded ◌then◌otherwise◌
  decided empty = and_false (reaches_way v a)
  decided (used t) =
      ap (reaches_way v a and◌) (onward_is t)
      ∙ in_order (reaches_way v a) (eqb a.port t.leaving) (not (port_off v a (by_return t)) and not (too_long_for_port v a (by_return t)))

  forwarded_is : is_forwarded (verdict v a (plan v a)) ≡ goes_back v a (v.return (destination a))
  unfolding early_tests verdict all_give is_forwarded ◌and◌
  forwarded_is =
      early_decides v a is_forwarded refl
      ∙ ap (λ (w : Way). reaches_way v a and is_forwarded (verdict v a (onward_plan v a w))) way_is
      ∙ decided (v.return (destination a))

  -- ---- the port
  port_is : (port n : ℕ) → verdict v a (plan v a) ≡ Forward port n → (t : Return) × (v.return (destination a) ≡ used t) × (port ≡ t.arrival)
  unfolding return_way way_verdict leaving_port verdict
  port_is port n = go (plan v a) refl
    where
      by : (s : Slot Return) → v.return (destination a) ≡ s → way_verdict v a (return_way s) ≡ Forward port n
          → (t : Return) × (v.return (destination a) ≡ used t) × (port ≡ t.arrival)
      by empty e says = let z : ◌≡◌ {A = ℕ} 0 1 = cc in absurd (omega arith)
      by (used t) e says = (t, e, (cc))

      go : (todo : Plan) → plan v a ≡ todo → verdict v a todo ≡ Forward port n
          → (t : Return) × (v.return (destination a) ≡ used t) × (port ≡ t.arrival)
      go (dropped reason) e says = let z : ◌≡◌ {A = ℕ} 0 1 = cc in absurd (omega arith)
      go delivered e says = let z : ◌≡◌ {A = ℕ} 0 1 = cc in absurd (omega arith)
      go (follows w) e says =
          by (v.return (destination a)) refl (ap (way_verdict v a) (sym way_is ∙ (passed v a w e).0) ∙ says)

-- ---- the sentence, of every packet call
pub proof_returns : (a : Arrival) (output : List ℕ) (r : Relay) (t : Tally) → OfPacket ProofReturns a output r t
unfolding is_forwarded
proof_returns a output r t taken ordinary =
    let v : View = view_at a.clock r in
    let is = judged_reply a r t output taken in
    record {
      only_by = λ port n room says. port_is v a ordinary port n (let e : verdict v a (plan v a) ≡ Forward port n = cc in e);
      exactly = ap says_forwarded is ∙ forwarded_is v a ordinary;
    }

-- ---- behind any calls from fresh
pub proof_returns_fresh : FromFresh ProofReturns
proof_returns_fresh own cs none a output = proof_returns a output _ _
