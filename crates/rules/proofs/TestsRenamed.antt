-- The tests of a renamed packet by a renamed view: each says the same as before.
use Prim.Native.Nat.{ℕ}
use native.Mathlib.Nat.{le_refl}
use mathlib.Core.Bool.{Bool, true, not}
use mathlib.Core.List.{List}
use mathlib.Core.Path.{◌≡◌, refl, sym, ap, ap₂, ◌∙◌}
use Rattle.octets.specs.Index.{◌and◌}
use Rattle.octets.specs.Choice.{◌then◌otherwise◌, ◌or◌}
use Rattle.octets.proofs.Choice.{then_ap}
use Rattle.packet.specs.Header.{of_kind_single, is_announce, is_link_request}
use Rattle.packet.specs.Hash.{link_id}
use Rattle.rules.specs.Relay.{Slot, empty, used, Path, Return}
use Rattle.rules.specs.View.{View}
use Rattle.rules.specs.Renumbering.{image, one_to_one, rename_path, rename_link, rename_return, rename_slot}
use Rattle.rules.specs.Arrival.{Arrival, header, destination, hash, is_link_proof}
use Rattle.rules.specs.Exempt.{exempt}
use Rattle.rules.specs.Ways.{Way, everywhere, by_path, along_link, by_return, blocked, path_way, link_way, return_way, way_on}
use Rattle.rules.specs.Tests.{not_ours, is_marked, for_marked_path, duplicate, tested_as_duplicate, own_announce, delivered_here, no_way_on, why_blocked, is_there, follows_proved_link, already_known, from_answering_side, from_asking_side, wrong_side, not_signed, revives, of_known, known_tests, leaving_port, port_off, too_long_for_port, no_room}
use Rattle.rules.specs.Outgoing.{outgoing, exceeds}
use Rattle.rules.specs.Run.{rename_arrival}
use Rattle.rules.specs.declared.Link.{Link}
use Rattle.rules.specs.declared.Blocked.TheVariants.{NotProved}
use Rattle.rules.proofs.Images.{image_other, image_eqb, source, source_image}
use Rattle.rules.proofs.ViewRenamed.{rename_view}
use Rattle.numbers.specs.Numbers.{port_count}

unfoldable pub rename_way : List ℕ → Way → Way
rename_way m (everywhere known) = everywhere (rename_slot (rename_path m) known)
rename_way m (by_path p) = by_path (rename_path m p)
rename_way m (along_link l) = along_link (rename_link m l)
rename_way m (by_return t) = by_return (rename_return m t)
rename_way m (blocked why) = blocked why

module _ (m : List ℕ) where
  -- ---- the way on
  path_way_renamed : (slot : Slot Path) (expired : Slot ℕ) → path_way (rename_slot (rename_path m) slot) expired ≡ rename_way m (path_way slot expired)
  unfolding path_way rename_slot rename_way
  path_way_renamed empty expired = refl
  path_way_renamed (used p) expired = refl

  link_way_renamed : (proof : Bool) (slot : Slot Link) → link_way proof (rename_slot (rename_link m) slot) ≡ rename_way m (link_way proof slot)
  unfolding link_way rename_slot rename_way rename_link
  link_way_renamed proof empty = refl
  link_way_renamed proof (used l) = sym (then_ap (rename_way m) (l.proved or proof) (along_link l) (blocked NotProved))

  return_way_renamed : (slot : Slot Return) → return_way (rename_slot (rename_return m) slot) ≡ rename_way m (return_way slot)
  unfolding return_way rename_slot rename_way
  return_way_renamed empty = refl
  return_way_renamed (used t) = refl

  pub way_on_renamed : (v : View) (a : Arrival) → way_on (rename_view m v) (rename_arrival m a) ≡ rename_way m (way_on v a)
  unfolding way_on rename_view rename_arrival rename_way
  way_on_renamed v a = simp (then_ap (rename_way m), path_way_renamed, link_way_renamed, return_way_renamed)

  -- ---- tests 1 to 5
  pub not_ours_renamed : (v : View) (a : Arrival) → not_ours (rename_view m v) (rename_arrival m a) ≡ not_ours v a
  unfolding not_ours rename_view rename_arrival
  not_ours_renamed v a = refl

  is_marked_renamed : (slot : Slot Path) → is_marked (rename_slot (rename_path m) slot) ≡ is_marked slot
  unfolding is_marked rename_slot rename_path
  is_marked_renamed empty = refl
  is_marked_renamed (used p) = refl

  pub for_marked_path_renamed : (v : View) (a : Arrival) → for_marked_path (rename_view m v) (rename_arrival m a) ≡ for_marked_path v a
  unfolding for_marked_path rename_view rename_arrival
  for_marked_path_renamed v a =
      ap (λ (b : Bool). is_announce (header a) and of_kind_single (header a) and b) (is_marked_renamed (v.path (destination a)))

  pub duplicate_renamed : (v : View) (a : Arrival) → duplicate (rename_view m v) (rename_arrival m a) ≡ duplicate v a
  unfolding duplicate tested_as_duplicate rename_view rename_arrival
  duplicate_renamed v a = ap (λ (b : Bool). (not (exempt a.bytes) and not b) and v.remembered (hash a)) (for_marked_path_renamed v a)

  pub bytes_renamed : (a : Arrival) → (rename_arrival m a).bytes ≡ a.bytes
  unfolding rename_arrival
  bytes_renamed a = refl

  pub own_announce_renamed : (v : View) (a : Arrival) → own_announce (rename_view m v) (rename_arrival m a) ≡ own_announce v a
  unfolding own_announce rename_view rename_arrival
  own_announce_renamed v a = refl

  pub delivered_here_renamed : (v : View) (a : Arrival) → delivered_here (rename_view m v) (rename_arrival m a) ≡ delivered_here v a
  unfolding delivered_here rename_view rename_arrival
  delivered_here_renamed v a = refl

  -- ---- tests that look at the way on, and at no port
  pub no_way_on_renamed : (w : Way) → no_way_on (rename_way m w) ≡ no_way_on w
  unfolding no_way_on rename_way
  no_way_on_renamed (everywhere known) = refl
  no_way_on_renamed (by_path p) = refl
  no_way_on_renamed (along_link l) = refl
  no_way_on_renamed (by_return t) = refl
  no_way_on_renamed (blocked why) = refl

  pub why_blocked_renamed : (w : Way) → why_blocked (rename_way m w) ≡ why_blocked w
  unfolding why_blocked rename_way
  why_blocked_renamed (everywhere known) = refl
  why_blocked_renamed (by_path p) = refl
  why_blocked_renamed (along_link l) = refl
  why_blocked_renamed (by_return t) = refl
  why_blocked_renamed (blocked why) = refl

  pub is_there_renamed : {A : Type 0} (rename : A → A) (slot : Slot A) → is_there (rename_slot rename slot) ≡ is_there slot
  unfolding is_there rename_slot
  is_there_renamed rename empty = refl
  is_there_renamed rename (used x) = refl

  follows_proved_link_renamed : (w : Way) → follows_proved_link (rename_way m w) ≡ follows_proved_link w
  unfolding follows_proved_link rename_way rename_link
  follows_proved_link_renamed (everywhere known) = refl
  follows_proved_link_renamed (by_path p) = refl
  follows_proved_link_renamed (along_link l) = refl
  follows_proved_link_renamed (by_return t) = refl
  follows_proved_link_renamed (blocked why) = refl

  pub already_known_renamed : (v : View) (a : Arrival) (w : Way)
      → already_known (rename_view m v) (rename_arrival m a) (rename_way m w) ≡ already_known v a w
  unfolding already_known rename_view rename_arrival
  already_known_renamed v a w =
      ap₂ (λ (b c : Bool). is_link_request (header a) and b or is_link_proof a.bytes and c)
      (is_there_renamed (rename_link m) (v.link (link_id a.bytes)))
      (follows_proved_link_renamed w)

  pub not_signed_renamed : (a : Arrival) → not_signed (rename_arrival m a) ≡ not_signed a
  unfolding not_signed rename_arrival
  not_signed_renamed a = refl

  -- none of them looks at a port
  pub known_tests_renamed : (v : View) (a : Arrival) (w : Way) → known_tests (rename_view m v) (rename_arrival m a) (rename_way m w) ≡ known_tests v a w
  unfolding known_tests of_known revives rename_view rename_way rename_slot rename_path rename_arrival
  known_tests_renamed v a (everywhere empty) = refl
  known_tests_renamed v a (everywhere (used p)) = refl
  known_tests_renamed v a (by_path p) = refl
  known_tests_renamed v a (along_link l) = refl
  known_tests_renamed v a (by_return t) = refl
  known_tests_renamed v a (blocked why) = refl

  pub no_room_renamed : (v : View) (a : Arrival) (w : Way) → no_room (rename_view m v) (rename_arrival m a) (rename_way m w) ≡ no_room v a w
  unfolding no_room rename_view rename_arrival rename_way rename_slot
  no_room_renamed v a (everywhere empty) = refl
  no_room_renamed v a (everywhere (used p)) = refl
  no_room_renamed v a (by_path p) = refl
  no_room_renamed v a (along_link l) = refl
  no_room_renamed v a (by_return t) = refl
  no_room_renamed v a (blocked why) = refl

  -- ---- the bytes that leave
  pub outgoing_renamed : (v : View) (a : Arrival) (w : Way) → outgoing (rename_view m v) (rename_arrival m a) (rename_way m w) ≡ outgoing v a w
  unfolding outgoing rename_view rename_arrival rename_way rename_path
  outgoing_renamed v a (everywhere known) = refl
  outgoing_renamed v a (by_path p) = refl
  outgoing_renamed v a (along_link l) = refl
  outgoing_renamed v a (by_return t) = refl
  outgoing_renamed v a (blocked why) = refl

-- ---- tests that look at ports
module _ (m : List ℕ) (ok : one_to_one m ≡ true) where
  answering_renamed : (l : Link) (a : Arrival) → from_answering_side (rename_link m l) (rename_arrival m a) ≡ from_answering_side l a
  unfolding from_answering_side rename_link rename_arrival
  answering_renamed l a = rw (image_eqb m ok a.port l.answering)

  asking_renamed : (l : Link) (a : Arrival) → from_asking_side (rename_link m l) (rename_arrival m a) ≡ from_asking_side l a
  unfolding from_asking_side rename_link rename_arrival
  asking_renamed l a = rw (image_eqb m ok a.port l.asking)

  pub wrong_side_renamed : (a : Arrival) (w : Way) → wrong_side (rename_arrival m a) (rename_way m w) ≡ wrong_side a w
  unfolding wrong_side rename_arrival rename_way rename_return
  wrong_side_renamed a (everywhere known) = refl
  wrong_side_renamed a (by_path p) = refl
  wrong_side_renamed a (along_link l) = rw (answering_renamed l a, asking_renamed l a)
  wrong_side_renamed a (by_return t) = ap not (image_eqb m ok a.port t.leaving)
  wrong_side_renamed a (blocked why) = refl

  pub leaving_port_renamed : (a : Arrival) (w : Way) → leaving_port (rename_arrival m a) (rename_way m w) ≡ image m (leaving_port a w)
  unfolding leaving_port rename_way rename_path rename_link rename_return
  leaving_port_renamed a (everywhere known) = sym (image_other m port_count (le_refl port_count))
  leaving_port_renamed a (by_path p) = refl
  leaving_port_renamed a (along_link l) =
      ap (λ (b : Bool). b then image m l.asking otherwise image m l.answering) (answering_renamed l a)
      ∙ sym (then_ap (image m) (from_answering_side l a) l.asking l.answering)
  leaving_port_renamed a (by_return t) = refl
  leaving_port_renamed a (blocked why) = sym (image_other m port_count (le_refl port_count))

  -- where the leaving port was
  leaving_source : (a : Arrival) (w : Way) → source m (leaving_port (rename_arrival m a) (rename_way m w)) ≡ leaving_port a w
  leaving_source a w = ap (source m) (leaving_port_renamed a w) ∙ source_image m ok (leaving_port a w)

  pub port_off_renamed : (v : View) (a : Arrival) (w : Way) → port_off (rename_view m v) (rename_arrival m a) (rename_way m w) ≡ port_off v a w
  unfolding port_off rename_view rename_arrival
  port_off_renamed v a w = ap (λ (n : ℕ). not (is_announce (header a)) and not (v.on n)) (leaving_source a w)

  -- the same bytes, and its size has moved with the port
  pub too_long_for_port_renamed : (v : View) (a : Arrival) (w : Way)
      → too_long_for_port (rename_view m v) (rename_arrival m a) (rename_way m w) ≡ too_long_for_port v a w
  unfolding too_long_for_port rename_view rename_arrival
  too_long_for_port_renamed v a w =
      ap₂ (λ (packet : List ℕ) (n : ℕ). not (is_announce (header a)) and exceeds packet (v.size n)) (outgoing_renamed m v a w) (leaving_source a w)
