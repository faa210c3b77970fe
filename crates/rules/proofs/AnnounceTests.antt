-- What the tests say of an announce, by its packet kind alone; and of one of kind single for a marked path, which skips test 2.
use Prim.Native.Nat.{ℕ}
use mathlib.Core.Bool.{Bool, true, false, not}
use mathlib.Core.Path.{◌≡◌, ap, ◌∙◌}
use lib.Dec.{eqb}
use borrow.Author.Tests.{eqb-true}
use Rattle.octets.specs.Index.{◌and◌}
use Rattle.octets.proofs.Index.{and_both, and_no, and_false}
use Rattle.octets.proofs.Choice.{or_no}
use Rattle.packet.specs.Header.{type_two, of_kind_single, packet_kind, is_data, is_announce, is_link_request}
use Rattle.rules.specs.Relay.{used, Path}
use Rattle.rules.specs.View.{View}
use Rattle.rules.specs.Arrival.{Arrival, header, destination, is_link_proof}
use Rattle.rules.specs.Exempt.{exempt}
use Rattle.rules.specs.Ways.{Way}
use Rattle.rules.specs.Tests.{not_ours, is_marked, for_marked_path, tested_as_duplicate, duplicate, delivered_here, already_known}

module _ (v : View) (a : Arrival) (announce : is_announce (header a) ≡ true) where
  -- it is no other kind of packet
  kind_one : packet_kind (header a) ≡ 1
  kind_one = eqb-true _ _ announce

  no_data : is_data (header a) ≡ false
  no_data = ap (λ (n : ℕ). eqb n 0) kind_one

  no_request : is_link_request (header a) ≡ false
  no_request = ap (λ (n : ℕ). eqb n 2) kind_one

  no_link_proof : is_link_proof a.bytes ≡ false
  unfolding is_link_proof
  no_link_proof = and_no _ (ap (λ (n : ℕ). eqb n 3) kind_one)

  pub announce_ours : not_ours v a ≡ false
  unfolding not_ours
  announce_ours = ap (λ (b : Bool). type_two (header a) and b) (and_no _ (ap not announce)) ∙ and_false _

  pub announce_not_here : delivered_here v a ≡ false
  unfolding delivered_here
  announce_not_here = and_no _ (or_no no_data no_request)

  pub announce_unknown : (w : Way) → already_known v a w ≡ false
  unfolding already_known
  announce_unknown w = or_no (and_no _ no_request) (and_no _ no_link_proof)

  -- its path is marked
  pub announce_untested : (p : Path) → of_kind_single (header a) ≡ true → v.path (destination a) ≡ used p → p.notes.marked ≡ true → duplicate v a ≡ false
  unfolding duplicate tested_as_duplicate for_marked_path is_marked
  announce_untested p single live marked =
      let skips = and_both announce (and_both single (ap is_marked live ∙ marked)) in
      and_no _ (ap (λ (b : Bool). not (exempt a.bytes) and not b) skips ∙ and_false _)
