-- Wish 2, what was wanted, of one keepalive: no test holds of it, so it follows its link, whatever hashes are remembered.
use Prim.Native.Nat.{ℕ}
use mathlib.Core.Bool.{Bool, true, false, not, false≢true}
use mathlib.Core.Path.{◌≡◌, refl, ap, ◌∙◌}
use lib.Dec.{eqb, ltb}
use borrow.Author.Tests.{eqb-true, not-true}
use Rattle.octets.specs.Index.{◌and◌}
use Rattle.octets.specs.Choice.{◌then◌otherwise◌, ◌or◌}
use Rattle.octets.specs.Listed.{first_of, any_holds}
use Rattle.octets.proofs.Index.{and_left, and_right, and_both, and_no, and_false}
use Rattle.octets.proofs.Choice.{or_no, same_eq}
use Rattle.octets.proofs.Listed.{none_first}
use Rattle.octets.proofs.JoinedTests.{none_joined}
use Rattle.rules.proofs.Passed.{none_known}
use Rattle.packet.specs.Header.{type_two, of_kind_link, packet_kind, is_data, is_announce, is_link_request, is_proof}
use Rattle.packet.specs.Read.{parts_of}
use Rattle.rules.specs.Relay.{used, Relay}
use Rattle.rules.specs.View.{View, port_size}
use Rattle.rules.specs.Arrival.{Arrival, header, hops, destination, is_link_proof}
use Rattle.rules.specs.Exempt.{exempt_context, exempt}
use Rattle.rules.specs.Ways.{Way, along_link, link_way, way_on}
use Rattle.rules.specs.Tests.{not_ours, tested_as_duplicate, duplicate, type_two_proof, type_two_of_kind_link, announce_not_single, announce_too_short, announce_of_another, request_of_kind_link, request_too_short, link_proof_length, form_tests, bad_form, own_announce, delivered_here, too_many_hops, no_way_on, already_known, from_answering_side, from_asking_side, wrong_side, not_signed, of_known, known_tests, leaving_port, port_off, too_long_for_port, no_room}
use Rattle.rules.specs.Outgoing.{outgoing, exceeds}
use Rattle.rules.specs.Judging.{dropped, follows, early_tests, onward_tests, onward_plan, plan}
use Rattle.rules.specs.Keepalives.{is_keepalive, keeps_alive}
use Rattle.rules.specs.declared.Link.{Link}
use Rattle.rules.proofs.Choices.{either}
use Rattle.rules.proofs.Lengths.{carried_length}

-- a packet of a link that is no link proof, from one of its sides
side_right : (x y z : Bool) → (x or y) ≡ true → z ≡ false → (x then false otherwise z or not y) ≡ false
unfolding ◌or◌ ◌then◌otherwise◌
side_right true y z h e = refl
side_right false true z h e = rw e
side_right false false z h e = absurd (false≢true h)

module _ (r : Relay) (l : Link) (a : Arrival) (k : keeps_alive r l a ≡ true) where
  shape : is_keepalive a.bytes ≡ true
  unfolding keeps_alive
  shape = and_left _ _ k

  pub names_link : l.id ≡ destination a
  unfolding keeps_alive
  names_link = same_eq _ _ (and_left _ _ (and_right _ _ k))

  sided : (from_answering_side l a or from_asking_side l a) ≡ true
  unfolding keeps_alive
  sided = and_left _ _ (and_right _ _ (and_right _ _ k))

  pub short_enough : exceeds a.bytes (port_size r (leaving_port a (along_link l))) ≡ false
  unfolding keeps_alive
  short_enough = not-true _ (and_right _ _ (and_right _ _ (and_right _ _ k)))

  type_one : type_two (header a) ≡ false
  unfolding is_keepalive
  type_one = not-true _ (and_left _ _ shape)

  of_link_lem : of_kind_link (header a) ≡ true
  unfolding is_keepalive
  of_link_lem = and_left _ _ (and_right _ _ shape)

  is_data_lem : is_data (header a) ≡ true
  unfolding is_keepalive
  is_data_lem = and_left _ _ (and_right _ _ (and_right _ _ shape))

  keepalive_context : (parts_of a.bytes).context ≡ 0xfa
  unfolding is_keepalive
  keepalive_context = eqb-true _ _ (and_left _ _ (and_right _ _ (and_right _ _ (and_right _ _ shape))))

  few_hops_lem : too_many_hops (hops a) ≡ false
  unfolding is_keepalive
  few_hops_lem = not-true _ (and_right _ _ (and_right _ _ (and_right _ _ (and_right _ _ shape))))

  -- .. so it is no other kind of packet
  kind_zero : packet_kind (header a) ≡ 0
  kind_zero = eqb-true _ _ is_data_lem

  no_announce : is_announce (header a) ≡ false
  no_announce = ap (λ (n : ℕ). eqb n 1) kind_zero

  no_request : is_link_request (header a) ≡ false
  no_request = ap (λ (n : ℕ). eqb n 2) kind_zero

  no_proof : is_proof (header a) ≡ false
  no_proof = ap (λ (n : ℕ). eqb n 3) kind_zero

  no_link_proof : is_link_proof a.bytes ≡ false
  unfolding is_link_proof
  no_link_proof = and_no _ no_proof

  -- .. and exempt
  pub is_exempt : exempt a.bytes ≡ true
  unfolding exempt exempt_context ◌or◌
  is_exempt = and_both of_link_lem (rw keepalive_context)

  -- ---- no test holds
  good_form : bad_form a.bytes ≡ false
  unfolding bad_form form_tests any_holds type_two_proof type_two_of_kind_link announce_not_single announce_too_short announce_of_another request_of_kind_link
      request_too_short link_proof_length
  good_form =
      or_no (and_no _ type_one)
      (or_no (and_no _ type_one)
      (or_no (and_no _ no_announce)
      (or_no (and_no _ no_announce)
      (or_no (and_no _ no_announce)
      (or_no (and_no _ no_request)
      (or_no (and_no _ no_request)
      (or_no (and_no _ no_link_proof) refl)))))))

  module _ (v : View) where
    not_duplicate : duplicate v a ≡ false
    unfolding duplicate tested_as_duplicate
    not_duplicate = and_no _ (and_no _ (ap not is_exempt))

    elsewhere : delivered_here v a ≡ false
    unfolding delivered_here
    elsewhere =
        let no_kind : (not (of_kind_link (header a)) and v.local (destination a)) ≡ false = and_no _ (ap not of_link_lem) in
        ap (λ (b : Bool). (is_data (header a) or is_link_request (header a)) and b) no_kind ∙ and_false _

    early_none : first_of (early_tests v a) (onward_plan v a (way_on v a)) ≡ onward_plan v a (way_on v a)
    unfolding early_tests not_ours own_announce
    early_none =
        none_first (early_tests v a) _
        (and_no _ type_one, (not_duplicate, (good_form, (and_no _ no_announce, (elsewhere, (few_hops_lem, tt))))))

    way_found : v.link (destination a) ≡ used l → l.proved ≡ true → way_on v a ≡ along_link l
    unfolding way_on link_way ◌then◌otherwise◌ ◌or◌
    way_found found proved = rw (no_announce, of_link_lem, found, proved)

    right_side : wrong_side a (along_link l) ≡ false
    unfolding wrong_side
    right_side = side_right _ _ _ sided no_link_proof

    port_on_lem : v.on l.asking ≡ true → v.on l.answering ≡ true → v.on (leaving_port a (along_link l)) ≡ true
    unfolding leaving_port
    port_on_lem asking answering = either (λ (port : ℕ). v.on port ≡ true) (from_answering_side l a) (λ _. asking) (λ _. answering)

    -- it leaves as long as it came
    sized : exceeds a.bytes (v.size (leaving_port a (along_link l))) ≡ false → too_long_for_port v a (along_link l) ≡ false
    unfolding too_long_for_port outgoing exceeds
    sized short =
        let size : ℕ = v.size (leaving_port a (along_link l)) in
        ap (λ (n : ℕ). not (is_announce (header a)) and ltb size n) (carried_length a.bytes)
        ∙ ap (λ (b : Bool). not (is_announce (header a)) and b) short
        ∙ and_false _

    late_none : v.on l.asking ≡ true → v.on l.answering ≡ true → exceeds a.bytes (v.size (leaving_port a (along_link l))) ≡ false
        → first_of (onward_tests v a (along_link l)) (follows (along_link l)) ≡ follows (along_link l)
    unfolding onward_tests no_way_on already_known not_signed of_known port_off no_room
    late_none asking answering short =
        none_first (onward_tests v a (along_link l)) _ (
          refl,
          (
            or_no (and_no _ no_request) (and_no _ no_link_proof),
            (
              right_side,
              (
                and_no _ (or_no no_announce no_link_proof),
                none_joined dropped (known_tests v a (along_link l)) _ (none_known v a (along_link l) refl) (
                  ap (λ (b : Bool). not (is_announce (header a)) and not b) (port_on_lem asking answering) ∙ and_false _,
                  (sized short, (refl, tt)),
                ),
              ),
            ),
          ),
        )

    -- it follows its link
    pub keepalive_follows : v.link (destination a) ≡ used l → l.proved ≡ true
        → v.on l.asking ≡ true → v.on l.answering ≡ true → exceeds a.bytes (v.size (leaving_port a (along_link l))) ≡ false
        → plan v a ≡ follows (along_link l)
    unfolding plan onward_plan
    keepalive_follows found proved asking answering short =
        early_none ∙ ap (λ (w : Way). onward_plan v a w) (way_found found proved) ∙ late_none asking answering short
