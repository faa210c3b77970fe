-- Packets of kind link: tests 6, 7, 8, 9, 12 and 16 are all that can hold of them.
use Prim.Native.Nat.{ℕ}
use mathlib.Core.Bool.{Bool, true, false, not}
use Rattle.std.specs.Prelude.{Some, None}
use mathlib.Core.Path.{◌≡◌, refl, sym, ap, ◌∙◌}
use mathlib.Core.List.{List}
use lib.Dec.{ltb}
use lib.ListN.{length}
use Rattle.octets.specs.Index.{◌and◌}
use Rattle.octets.specs.Choice.{◌or◌, ◌then◌otherwise◌}
use Rattle.octets.proofs.Choice.{then_true, then_false, or_right}
use Rattle.packet.specs.Header.{of_kind_link, is_announce}
use Rattle.octets.specs.Listed.{first_of}
use Rattle.rules.specs.Relay.{empty, used, Relay}
use Rattle.rules.specs.View.{View, link_place, view_at}
use Rattle.rules.specs.Arrival.{Arrival, header, destination, is_link_proof}
use Rattle.rules.specs.Ways.{Way, along_link, blocked, link_way, way_on}
use Rattle.rules.specs.Tests.{bad_form, no_way_on, why_blocked, follows_proved_link, already_known, from_answering_side, from_asking_side, wrong_side, not_signed, of_known, known_tests, leaving_port, port_off, too_long_for_port, no_room}
use Rattle.rules.specs.Outgoing.{outgoing, exceeds}
use Rattle.rules.specs.Judging.{dropped, follows, onward_plan, onward_tests}
use Rattle.rules.specs.declared.Link.{Link}
use Rattle.rules.specs.declared.Blocked.TheVariants.{NoLink, NotProved}
use Rattle.rules.specs.declared.Reason.TheVariants.{NoWayOn, AlreadyKnown, WrongSide, NotSigned, PortOff, TooLongForPort}
use Rattle.rules.proofs.Lengths.{carried_length}
use Rattle.numbers.specs.Numbers.{link_count}
use Rattle.tables.specs.Layout.{relay_of}
use Rattle.lookup.specs.Search.{found}
use Rattle.lookup.proofs.Found.{found_some, found_below, found_none, link_found, link_missing}
use Rattle.plan.proofs.Judged.{judging}
use Rattle.plan.specs.Decided.{link_at, decided_way, decided, onward}
use Rattle.plan.specs.Kinds.{leaving, carried, proving, carrying}
use Rattle.plan.specs.declared.Decision.TheVariants.{Drop, Carry}
use Rattle.forms.proofs.KindLaws.{link_no_request}
use Rattle.plan.proofs.KindLaws.{decided_test}

module _ (a : Arrival) (good : bad_form a.bytes ≡ false) (announce : is_announce (header a) ≡ false) (kind : of_kind_link (header a) ≡ true) where
  link_way_lem : (v : View) → way_on v a ≡ link_way (is_link_proof a.bytes) (v.link (destination a))
  unfolding way_on
  link_way_lem v = then_false _ _ announce ∙ then_true _ _ kind

  link_plan : (v : View) (l : Link) → onward_plan v a (along_link l)
      ≡ (is_link_proof a.bytes and l.proved then dropped AlreadyKnown otherwise
      wrong_side a (along_link l) then dropped WrongSide otherwise
      is_link_proof a.bytes and not a.signed then dropped NotSigned otherwise
      not (v.on (leaving_port a (along_link l))) then dropped PortOff otherwise
      ltb (v.size (leaving_port a (along_link l))) (length a.bytes) then dropped TooLongForPort otherwise
      follows (along_link l))
  unfolding onward_plan onward_tests first_of no_way_on already_known follows_proved_link not_signed known_tests of_known port_off too_long_for_port no_room
      exceeds outgoing ◌then◌otherwise◌ ◌and◌ ◌or◌
  link_plan v l = rw (link_no_request a good kind, announce, carried_length a.bytes)

  module _ (r : Relay) where
    link_none : (view_at a.clock r).link (destination a) ≡ empty → Drop (NoWayOn NoLink) ≡ onward r a
    unfolding onward onward_plan onward_tests first_of no_way_on why_blocked decided link_way ◌then◌otherwise◌
    link_none e =
        let v : View = view_at a.clock r in
        sym (ap (λ (w : Way). decided r a (onward_plan v a w)) (link_way_lem v ∙ ap (link_way (is_link_proof a.bytes)) e))

    along : (l : Link) → way_on (view_at a.clock r) a ≡ along_link l → onward r a
        ≡ (is_link_proof a.bytes and l.proved then Drop AlreadyKnown otherwise
        wrong_side a (along_link l) then Drop WrongSide otherwise
        is_link_proof a.bytes and not a.signed then Drop NotSigned otherwise
        leaving r (leaving_port a (along_link l)) (length a.bytes) (Carry (link_place a.clock r (destination a)) (leaving_port a (along_link l))))
    unfolding onward decided decided_way leaving view_at
    along l way =
        let v : View = view_at a.clock r in
        ap (λ (w : Way). decided r a (onward_plan v a w)) way ∙ ap (decided r a) (link_plan v l) ∙ simp decided_test

    module _ (l : Link) (there : (view_at a.clock r).link (destination a) ≡ used l) where
      link_proof : is_link_proof a.bytes ≡ true → proving r a l (link_place a.clock r (destination a)) ≡ onward r a
      unfolding proving carried wrong_side leaving_port link_way ◌then◌otherwise◌ ◌and◌ ◌or◌
      link_proof is = go (from_answering_side l a) refl
        where
          way : way_on (view_at a.clock r) a ≡ along_link l
          way = link_way_lem (view_at a.clock r) ∙ rw (there, is) (then_true _ _ (or_right l.proved refl))

          go : (b : Bool) → from_answering_side l a ≡ b → proving r a l (link_place a.clock r (destination a)) ≡ onward r a
          go true q = sym (along l way ∙ rw (is, q))
          go false q = sym (along l way ∙ rw (is, q))

      link_other : is_link_proof a.bytes ≡ false → carrying r a l (link_place a.clock r (destination a)) ≡ onward r a
      unfolding onward onward_plan onward_tests first_of no_way_on why_blocked decided carrying carried wrong_side leaving_port link_way ◌then◌otherwise◌ ◌and◌ ◌or◌
      link_other other = go l.proved refl (from_answering_side l a) refl (from_asking_side l a) refl
        where
          v : View
          v = view_at a.clock r

          way : l.proved ≡ true → way_on v a ≡ along_link l
          way p = link_way_lem v ∙ rw (there, other, p)

          go : (b : Bool) → l.proved ≡ b → (d : Bool) → from_answering_side l a ≡ d → (e : Bool) → from_asking_side l a ≡ e
              → carrying r a l (link_place a.clock r (destination a)) ≡ onward r a
          go false p d q e s =
              let shut : way_on v a ≡ blocked NotProved = link_way_lem v ∙ rw (there, other, p) in
              rw p (sym (ap (λ (w : Way). decided r a (onward_plan v a w)) shut))
          go true p true q e s = sym (along l (way p) ∙ rw (other, q, p))
          go true p false q true s = sym (along l (way p) ∙ rw (other, q, s, p))
          go true p false q false s = sym (along l (way p) ∙ rw (other, q, s, p))

-- ---- on tables, by what the search for the link answered
module _ (t : List ℕ) (a : Arrival) (good : bad_form a.bytes ≡ false)
    (announce : is_announce (header a) ≡ false) (kind : of_kind_link (header a) ≡ true) where
  pub link_nowhere : None ≡ found link_count (link_place a.clock (relay_of t) (destination a)) → Drop (NoWayOn NoLink) ≡ onward (relay_of t) a
  link_nowhere none = link_none a good announce kind (relay_of t) (link_missing t a.clock (destination a) _ refl (found_none none))

  module _ {i : ℕ} (answer : Some i ≡ found link_count (link_place a.clock (relay_of t) (destination a))) {link : Link} (read : link ≡ link_at t i) where
    abbrev at : i ≡ link_place a.clock (relay_of t) (destination a)
    at = (found_some answer).0

    there : (view_at a.clock (relay_of t)).link (destination a) ≡ used link
    there = link_found t a.clock (destination a) i at (found_below _ answer) ∙ ap used (sym read)

    pub proof_at : is_link_proof a.bytes ≡ true → proving (relay_of t) a link i ≡ onward (relay_of t) a
    proof_at is = ap (proving (relay_of t) a link) at ∙ link_proof a good announce kind (relay_of t) link there is

    pub other_at : is_link_proof a.bytes ≡ false → carrying (relay_of t) a link i ≡ onward (relay_of t) a
    other_at other = ap (carrying (relay_of t) a link) at ∙ link_other a good announce kind (relay_of t) link there other

pub ruleset link_steps = (link_nowhere, proof_at, other_at, found_below, judging)
