-- Ordinary proofs: tests 6, 8, 12 and 16 are all that can hold of them.
use Prim.Native.Nat.{ℕ}
use Rattle.std.specs.Prelude.{Some, None}
use mathlib.Core.Bool.{true, false, not}
use mathlib.Core.Path.{◌≡◌, refl, sym, ap, ◌∙◌}
use mathlib.Core.List.{List}
use lib.Dec.{ltb}
use lib.ListN.{length}
use Rattle.octets.specs.Index.{◌and◌}
use Rattle.octets.specs.Choice.{◌or◌, ◌then◌otherwise◌}
use Rattle.octets.proofs.Choice.{then_true, then_false}
use Rattle.packet.specs.Header.{packet_kind, of_kind_link, is_announce, is_link_request, is_proof}
use Rattle.octets.specs.Listed.{first_of}
use Rattle.rules.specs.Relay.{empty, used, Return, Relay}
use Rattle.rules.specs.View.{View, return_place, view_at}
use Rattle.rules.specs.Arrival.{Arrival, header, destination, is_link_proof}
use Rattle.rules.specs.Ways.{Way, by_return, return_way, way_on}
use Rattle.rules.specs.Tests.{no_way_on, why_blocked, already_known, wrong_side, not_signed, of_known, known_tests, leaving_port, port_off, too_long_for_port, no_room}
use Rattle.rules.specs.Outgoing.{outgoing, exceeds}
use Rattle.rules.specs.Judging.{dropped, follows, onward_plan, onward_tests}
use Rattle.rules.specs.declared.Blocked.TheVariants.{NoReturn}
use Rattle.rules.specs.declared.Reason.TheVariants.{NoWayOn, WrongSide, PortOff, TooLongForPort}
use Rattle.rules.proofs.Lengths.{carried_length}
use Rattle.numbers.specs.Numbers.{return_count}
use Rattle.tables.specs.Layout.{relay_of}
use Rattle.lookup.specs.Search.{found}
use Rattle.lookup.proofs.Found.{found_some, found_below, found_none, return_found, return_missing}
use Rattle.plan.proofs.Judged.{judging}
use Rattle.plan.specs.Decided.{return_at, decided_way, decided, onward}
use Rattle.plan.specs.Kinds.{leaving, returning}
use Rattle.plan.specs.declared.Decision.TheVariants.{Drop}
use Rattle.forms.proofs.KindLaws.{other_kind, no_link_proof_kind}
use Rattle.plan.proofs.KindLaws.{decided_test}

module _ (a : Arrival) (kind : of_kind_link (header a) ≡ false) (proof : is_proof (header a) ≡ true) where
  no_announce : is_announce (header a) ≡ false
  no_announce = other_kind (packet_kind (header a)) 3 1 proof refl

  no_request : is_link_request (header a) ≡ false
  no_request = other_kind (packet_kind (header a)) 3 2 proof refl

  no_link_proof : is_link_proof a.bytes ≡ false
  no_link_proof = no_link_proof_kind a kind

  return_way_lem : (v : View) → way_on v a ≡ return_way (v.return (destination a))
  unfolding way_on
  return_way_lem v = then_false _ _ no_announce ∙ then_false _ _ kind ∙ then_true _ _ proof

  return_plan : (v : View) (t : Return) → onward_plan v a (by_return t)
      ≡ (wrong_side a (by_return t) then dropped WrongSide otherwise
      not (v.on (leaving_port a (by_return t))) then dropped PortOff otherwise
      ltb (v.size (leaving_port a (by_return t))) (length a.bytes) then dropped TooLongForPort otherwise
      follows (by_return t))
  unfolding onward_plan onward_tests first_of no_way_on already_known not_signed known_tests of_known port_off too_long_for_port no_room
      exceeds outgoing ◌then◌otherwise◌ ◌and◌ ◌or◌
  return_plan v t = rw (no_request, no_link_proof, no_announce, carried_length a.bytes)

  module _ (r : Relay) where
    return_none : (view_at a.clock r).return (destination a) ≡ empty → Drop (NoWayOn NoReturn) ≡ onward r a
    unfolding onward onward_plan onward_tests first_of no_way_on why_blocked decided return_way ◌then◌otherwise◌
    return_none e =
        let v : View = view_at a.clock r in
        sym (ap (λ (w : Way). decided r a (onward_plan v a w)) (return_way_lem v ∙ ap return_way e))

    return_there : (t : Return) → (view_at a.clock r).return (destination a) ≡ used t
        → returning r a.bytes a.port t (return_place a.clock r (destination a)) ≡ onward r a
    unfolding onward decided decided_way returning leaving wrong_side leaving_port view_at return_way
    return_there t e =
        let v : View = view_at a.clock r in
        sym
        (ap (λ (w : Way). decided r a (onward_plan v a w)) (return_way_lem v ∙ ap return_way e)
        ∙ ap (decided r a) (return_plan v t)
        ∙ simp decided_test)

-- ---- on tables, by what the search for the return record answered
module _ (t : List ℕ) (a : Arrival) (kind : of_kind_link (header a) ≡ false) (proof : is_proof (header a) ≡ true) where
  pub return_nowhere : None ≡ found return_count (return_place a.clock (relay_of t) (destination a)) → Drop (NoWayOn NoReturn) ≡ onward (relay_of t) a
  return_nowhere none = return_none a kind proof (relay_of t) (return_missing t a.clock (destination a) _ refl (found_none none))

  pub return_at_lem : {i : ℕ} → Some i ≡ found return_count (return_place a.clock (relay_of t) (destination a))
      → returning (relay_of t) a.bytes a.port (return_at t i) i ≡ onward (relay_of t) a
  return_at_lem {i} answer =
      let (e, l) = found_some answer in
      ap (returning (relay_of t) a.bytes a.port (return_at t i)) e
      ∙ return_there a kind proof (relay_of t) (return_at t i) (return_found t a.clock (destination a) i e l)

pub ruleset return_steps = (return_nowhere, return_at_lem, found_below, judging)
