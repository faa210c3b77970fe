-- Judging a packet reads of a view only what `Sees` lists: where a struct sees what a view shows to a packet, judging by the struct is judging by the view.
use Prim.Native.Nat.{ℕ}
use mathlib.Core.Bool.{Bool, true, false, not, false≢true}
use mathlib.Core.List.{List, [], ◌∷◌}
use mathlib.Core.Path.{◌≡◌, refl, sym, ap, ◌∙◌}
use Rattle.octets.specs.Index.{◌and◌}
use Rattle.octets.specs.Choice.{◌then◌otherwise◌, ◌or◌}
use Rattle.octets.specs.Listed.{Test, ◌gives◌otherwise◌, first_of, any_holds, ◌each_give◌otherwise◌}
use Rattle.octets.proofs.Index.{and_no, and_both}
use Rattle.octets.proofs.Choice.{then_true, then_false, or_left, or_right}
use Rattle.packet.specs.Header.{type_two, of_kind_link, is_announce, is_link_request, is_proof}
use Rattle.packet.specs.Hash.{link_id}
use Rattle.rules.specs.Relay.{Slot, empty, used, Path}
use Rattle.rules.specs.View.{View}
use Rattle.rules.specs.Arrival.{Arrival, header, destination, hash, is_link_proof}
use Rattle.rules.specs.Ways.{Way, everywhere, by_path, along_link, by_return, blocked, path_way, link_way, return_way, way_on}
use Rattle.rules.specs.Tests.{not_ours, for_marked_path, tested_as_duplicate, duplicate, request_of_kind_link, form_tests, bad_form, own_announce, delivered_here, no_way_on, why_blocked, is_there, follows_proved_link, already_known, wrong_side, not_signed, known_tests, leaving_port, port_off, too_long_for_port, no_room}
use Rattle.rules.specs.Outgoing.{spread_ports, outgoing, exceeds}
use Rattle.rules.specs.Judging.{Plan, dropped, delivered, follows, early_tests, onward_tests, onward_plan, plan, way_verdict, verdict, output_after}
use Rattle.rules.specs.Writes.{already_live, remembers, announced_rate, announced_path}
use Rattle.rules.specs.declared.Blocked.TheVariants.{NotAsking}
use Rattle.rules.specs.declared.Reason.TheVariants.{NoWayOn, AlreadyKnown, WrongSide, NotSigned, PortOff, TooLongForPort, NoRoom}
use Rattle.judging.specs.declared.Seen.{Seen}
use Rattle.judging.specs.Seen.{link_key_of, link_key, view_of, Sees}
use Rattle.judging.specs.Steps.{settings_view}

-- where one test holds, what stands behind the list is never read
never_read : {A : Type 0} (ts : List (Test A)) (x y : A) → any_holds ts ≡ true → first_of ts x ≡ first_of ts y
unfolding first_of any_holds ◌then◌otherwise◌ ◌or◌
never_read [] x y e = absurd (false≢true e)
never_read {A} (t ∷ ts) x y e = go t.holds e (never_read ts x y)
  where
    go : (b : Bool) → (b or any_holds ts) ≡ true → (any_holds ts ≡ true → first_of ts x ≡ first_of ts y)
        → (b then t.value otherwise first_of ts x) ≡ (b then t.value otherwise first_of ts y)
    go true h below = refl
    go false h below = below h

module _ (v : View) (a : Arrival) where
  -- the view with all keys but the packet's own forgotten
  abbrev pub narrow : View
  narrow =
      record {
        own = v.own;
        rate = v.rate;
        on = v.on;
        mode = v.mode;
        size = v.size;
        local = λ key. v.local (destination a);
        remembered = λ key. v.remembered (hash a);
        path = λ key. v.path (destination a);
        expired = λ key. v.expired (destination a);
        link = λ key. v.link (link_key a);
        return = λ key. v.return (destination a);
        room_for_path = v.room_for_path;
        room_for_link = v.room_for_link;
      }

  -- ---- tests that read a link, what leaves, or room
  requested : (is_link_request (header a) and is_there (v.link (link_key a))) ≡ (is_link_request (header a) and is_there (v.link (link_id a.bytes)))
  unfolding link_key_of
  requested = go (is_link_request (header a)) refl
    where
      go : (b : Bool) → is_link_request (header a) ≡ b
          → (is_link_request (header a) and is_there (v.link (link_key a))) ≡ (is_link_request (header a) and is_there (v.link (link_id a.bytes)))
      go true q = ap (λ (key : List ℕ). is_link_request (header a) and is_there (v.link key)) (then_true _ _ q)
      go false q = and_no _ q ∙ sym (and_no _ q)

  known : (w : Way) → already_known narrow a w ≡ already_known v a w
  unfolding already_known
  known w = ap (λ (b : Bool). b or is_link_proof a.bytes and follows_proved_link w) requested

  leaving : (w : Way) → outgoing narrow a w ≡ outgoing v a w
  unfolding outgoing
  leaving (everywhere k) = refl
  leaving (by_path p) = refl
  leaving (along_link l) = refl
  leaving (by_return t) = refl
  leaving (blocked why) = refl

  too_long : (w : Way) → too_long_for_port narrow a w ≡ too_long_for_port v a w
  unfolding too_long_for_port
  too_long w = ap (λ (x : List ℕ). not (is_announce (header a)) and exceeds x (v.size (leaving_port a w))) (leaving w)

  room : (w : Way) → no_room narrow a w ≡ no_room v a w
  unfolding no_room
  room (everywhere empty) = refl
  room (everywhere (used p)) = refl
  room (by_path p) = refl
  room (along_link l) = refl
  room (by_return t) = refl
  room (blocked why) = refl

  onward : (w : Way) → onward_plan narrow a w ≡ onward_plan v a w
  unfolding onward_plan onward_tests known_tests port_off
  onward w = λ i.
      first_of
      (no_way_on w gives dropped (NoWayOn (why_blocked w)) otherwise
      known w i gives dropped AlreadyKnown otherwise
      wrong_side a w gives dropped WrongSide otherwise
      not_signed a gives dropped NotSigned otherwise
      known_tests v a w each_give dropped otherwise
      port_off v a w gives dropped PortOff otherwise
      too_long w i gives dropped TooLongForPort otherwise
      room w i gives dropped NoRoom otherwise
      [])
      (follows w)

  -- ---- the plan. Of a link request of kind link, which test 3 drops, the way on is another
  bad : is_link_request (header a) ≡ true → of_kind_link (header a) ≡ true → bad_form a.bytes ≡ true
  unfolding bad_form form_tests any_holds request_of_kind_link
  bad is kind = or_right _ (or_right _ (or_right _ (or_right _ (or_right _ (or_left _ (and_both is kind))))))

  early : early_tests narrow a ≡ early_tests v a
  unfolding early_tests not_ours for_marked_path tested_as_duplicate duplicate own_announce delivered_here
  early = refl

  by_way : way_on narrow a ≡ way_on v a → plan narrow a ≡ plan v a
  unfolding plan
  by_way e =
      ap (λ (ts : List (Test Plan)). first_of ts (onward_plan narrow a (way_on narrow a))) early
      ∙ ap (first_of (early_tests v a)) (onward (way_on narrow a) ∙ ap (onward_plan v a) e)

  stopped : bad_form a.bytes ≡ true → any_holds (early_tests v a) ≡ true
  unfolding early_tests any_holds
  stopped e = or_right _ (or_right _ (or_left _ e))

  dropped_by_form : bad_form a.bytes ≡ true → plan narrow a ≡ plan v a
  unfolding plan
  dropped_by_form e =
      ap (λ (ts : List (Test Plan)). first_of ts (onward_plan narrow a (way_on narrow a))) early
      ∙ never_read (early_tests v a) _ _ (stopped e)

  own_link : is_link_request (header a) ≡ false → way_on narrow a ≡ way_on v a
  unfolding way_on link_key_of
  own_link e =
      ap (λ (key : List ℕ).
      is_announce (header a) then everywhere (v.path (destination a)) otherwise
      of_kind_link (header a) then link_way (is_link_proof a.bytes) (v.link key) otherwise
      is_proof (header a) then return_way (v.return (destination a)) otherwise
      not (type_two (header a)) then blocked NotAsking otherwise
      path_way (v.path (destination a)) (v.expired (destination a)))
      (then_false _ _ e)

  no_link : of_kind_link (header a) ≡ false → way_on narrow a ≡ way_on v a
  unfolding way_on
  no_link e =
      ap (λ (w : Way). is_announce (header a) then everywhere (v.path (destination a)) otherwise w)
      (then_false _ _ e ∙ sym (then_false _ _ e))

  pub plan_narrow : plan narrow a ≡ plan v a
  plan_narrow = go (is_link_request (header a)) refl (of_kind_link (header a)) refl
    where
      go : (b : Bool) → is_link_request (header a) ≡ b → (d : Bool) → of_kind_link (header a) ≡ d → plan narrow a ≡ plan v a
      go false q d r = by_way (own_link q)
      go true q false r = by_way (no_link r)
      go true q true r = dropped_by_form (bad q r)

  -- ---- what is made of the plan
  pub verdict_narrow : (todo : Plan) → verdict narrow a todo ≡ verdict v a todo
  unfolding verdict way_verdict spread_ports outgoing
  verdict_narrow (dropped reason) = refl
  verdict_narrow delivered = refl
  verdict_narrow (follows (everywhere k)) = refl
  verdict_narrow (follows (by_path p)) = refl
  verdict_narrow (follows (along_link l)) = refl
  verdict_narrow (follows (by_return t)) = refl
  verdict_narrow (follows (blocked why)) = refl

  pub output_narrow : (todo : Plan) (output : List ℕ) → output_after narrow a todo output ≡ output_after v a todo output
  unfolding output_after way_verdict spread_ports outgoing
  output_narrow (dropped reason) output = refl
  output_narrow delivered output = refl
  output_narrow (follows (everywhere k)) output = refl
  output_narrow (follows (by_path p)) output = refl
  output_narrow (follows (along_link l)) output = refl
  output_narrow (follows (by_return t)) output = refl
  output_narrow (follows (blocked why)) output = refl

  pub remembers_narrow : (todo : Plan) → remembers narrow a todo ≡ remembers v a todo
  unfolding remembers already_live for_marked_path
  remembers_narrow todo = refl

  -- an accepted announce's path reads of the view the rate settings and the arrival port's mode
  pub announced_by_lem : (k : Slot Path) → announced_path (settings_view v.rate (v.mode a.port)) a k ≡ announced_path v a k
  unfolding announced_path announced_rate
  announced_by_lem empty = refl
  announced_by_lem (used p) = refl

  -- ---- by a struct that sees the view
  module _ (s : Seen) (h : Sees s v a) where
    pub view_seen : view_of s a ≡ narrow
    unfolding view_of
    view_seen = λ i.
        record {
          own = h.own i;
          rate = h.rate i;
          on = λ port. h.on port i;
          mode = λ port. h.mode port i;
          size = λ port. h.size port i;
          local = λ key. h.local i;
          remembered = λ key. h.remembered i;
          path = λ key. h.path i;
          expired = λ key. sym h.expired i;
          link = λ key. h.link i;
          return = λ key. h.return i;
          room_for_path = sym h.room_for_path i;
          room_for_link = sym h.room_for_link i;
        }

    pub plan_seen : plan (view_of s a) a ≡ plan v a
    plan_seen = ap (λ (u : View). plan u a) view_seen ∙ plan_narrow

    pub verdict_seen : (todo : Plan) → verdict (view_of s a) a todo ≡ verdict v a todo
    verdict_seen todo = ap (λ (u : View). verdict u a todo) view_seen ∙ verdict_narrow todo

    pub output_seen : (todo : Plan) (output : List ℕ) → output_after (view_of s a) a todo output ≡ output_after v a todo output
    output_seen todo output = ap (λ (u : View). output_after u a todo output) view_seen ∙ output_narrow todo output

    pub remembers_seen : (todo : Plan) → remembers (view_of s a) a todo ≡ remembers v a todo
    remembers_seen todo = ap (λ (u : View). remembers u a todo) view_seen ∙ remembers_narrow todo

-- every struct sees a view: its own
sees_own : (s : Seen) (a : Arrival) → Sees s (view_of s a) a
unfolding view_of
sees_own s a =
    record {
      own = refl;
      rate = refl;
      on = λ port. refl;
      mode = λ port. refl;
      size = λ port. refl;
      local = refl;
      remembered = refl;
      path = refl;
      link = refl;
      return = refl;
      expired = refl;
      room_for_path = refl;
      room_for_link = refl;
    }
