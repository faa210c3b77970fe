-- What a renumbered relay shows: what the relay shows, renamed.
use Prim.Native.Nat.{ℕ, ◌<◌}
use native.Mathlib.Decide.{dec_lt}
use native.Mathlib.Omega.{arith}
use mathlib.Core.Bool.{true, false}
use mathlib.Core.List.{List, map}
use mathlib.Core.Path.{◌≡◌, refl, sym, ap, ◌∙◌}
use lib.Dec.{ltb}
use lib.ListN.{length, get_or, get_or-eq_default}
use borrow.Author.Tests.{lt-ltb, le-ltb}
use Rattle.octets.specs.Index.{◌and◌}
use Rattle.octets.proofs.Index.{and_no, and_yes}
use Rattle.rules.specs.Relay.{Port, no_port, Slot, empty, used, Path, Relay}
use Rattle.rules.specs.Renumbering.{image, one_to_one, rename_path, rename_link, rename_return, rename_slot, renumbered}
use Rattle.rules.specs.View.{port_on, port_mode, port_size, local_place, is_local, is_live_path, is_live_link, is_live_return, path_place, link_place, return_place, hash_place, free_path, free_link, is_expired_path, expiry_if, expired_path, View, view_at}
use Rattle.rules.proofs.Images.{source, source_other, source_image}
use Rattle.rules.proofs.MovedPorts.{moved_at}
use Rattle.rules.proofs.Latest.{latest_cong}
use Rattle.rules.proofs.SlotsRenamed.{slot_renamed, lowest_renamed, lowest_free_renamed}
use Rattle.numbers.specs.Numbers.{port_count, path_count, link_count, return_count, hash_count}

-- a view whose ports have other numbers
unfoldable pub rename_view : List ℕ → View → View
rename_view m v =
    record {
      own = v.own;
      rate = v.rate;
      on = λ port. v.on (source m port);
      mode = λ port. v.mode (source m port);
      size = λ port. v.size (source m port);
      local = v.local;
      remembered = v.remembered;
      path = λ destination. rename_slot (rename_path m) (v.path destination);
      expired = v.expired;
      link = λ id. rename_slot (rename_link m) (v.link id);
      return = λ key. rename_slot (rename_return m) (v.return key);
      room_for_path = v.room_for_path;
      room_for_link = v.room_for_link;
    }

-- 16 is no port
pub no_port_on : (clock : ℕ) (r : Relay) → (view_at clock r).on port_count ≡ false
unfolding view_at port_on
no_port_on clock r = and_no (get_or r.ports port_count no_port).on refl

-- ---- the places where records lie
module _ (m : List ℕ) (clock : ℕ) (r : Relay) where
  pub path_place_renamed : (destination : List ℕ) → path_place clock (renumbered m r) destination ≡ path_place clock r destination
  unfolding path_place is_live_path renumbered rename_path
  path_place_renamed destination = lowest_renamed (rename_path m) (is_live_path clock destination) (λ p. refl) path_count r.paths

  pub link_place_renamed : (id : List ℕ) → link_place clock (renumbered m r) id ≡ link_place clock r id
  unfolding link_place is_live_link renumbered rename_link
  link_place_renamed id = lowest_renamed (rename_link m) (is_live_link clock id) (λ l. refl) link_count r.links

  pub return_place_renamed : (key : List ℕ) → return_place clock (renumbered m r) key ≡ return_place clock r key
  unfolding return_place is_live_return renumbered rename_return
  return_place_renamed key = lowest_renamed (rename_return m) (is_live_return clock key) (λ t. refl) return_count r.returns.slots

  pub free_path_renamed : free_path clock (renumbered m r) ≡ free_path clock r
  unfolding free_path renumbered rename_path
  free_path_renamed = lowest_free_renamed (rename_path m) (λ p. ltb clock p.expiry) (λ p. refl) path_count r.paths

  pub free_link_renamed : free_link clock (renumbered m r) ≡ free_link clock r
  unfolding free_link renumbered rename_link
  free_link_renamed = lowest_free_renamed (rename_link m) (λ l. ltb clock l.expiry) (λ l. refl) link_count r.links

  pub path_renamed : (destination : List ℕ)
      → (view_at clock (renumbered m r)).path destination ≡ rename_slot (rename_path m) ((view_at clock r).path destination)
  unfolding view_at renumbered
  path_renamed destination =
      ap (λ (i : ℕ). get_or (map (rename_slot (rename_path m)) r.paths) i empty) (path_place_renamed destination)
      ∙ slot_renamed (rename_path m) r.paths (path_place clock r destination)

  same_expiry : (destination : List ℕ) (s : Slot Path)
      → expiry_if (is_expired_path clock destination) (rename_slot (rename_path m) s) ≡ expiry_if (is_expired_path clock destination) s
  unfolding expiry_if is_expired_path rename_slot rename_path
  same_expiry destination empty = refl
  same_expiry destination (used p) = refl

  -- expiries aren't renamed
  expired_renamed : (destination : List ℕ) → (view_at clock (renumbered m r)).expired destination ≡ (view_at clock r).expired destination
  unfolding view_at expired_path renumbered
  expired_renamed destination =
      latest_cong _ _ path_count
      (λ i l.
      ap (expiry_if (is_expired_path clock destination)) (slot_renamed (rename_path m) r.paths i)
      ∙ same_expiry destination (get_or r.paths i empty))

  link_renamed : (id : List ℕ) → (view_at clock (renumbered m r)).link id ≡ rename_slot (rename_link m) ((view_at clock r).link id)
  unfolding view_at renumbered
  link_renamed id =
      ap (λ (i : ℕ). get_or (map (rename_slot (rename_link m)) r.links) i empty) (link_place_renamed id)
      ∙ slot_renamed (rename_link m) r.links (link_place clock r id)

  return_renamed : (key : List ℕ) → (view_at clock (renumbered m r)).return key ≡ rename_slot (rename_return m) ((view_at clock r).return key)
  unfolding view_at renumbered
  return_renamed key =
      ap (λ (i : ℕ). get_or (map (rename_slot (rename_return m)) r.returns.slots) i empty) (return_place_renamed key)
      ∙ slot_renamed (rename_return m) r.returns.slots (return_place clock r key)

  -- ---- a relay of sixteen ports
  module _ (sixteen : length r.ports ≡ port_count) where
    mode_renamed : (n : ℕ) → port_mode (renumbered m r) n ≡ port_mode r (source m n)
    unfolding port_mode renumbered
    mode_renamed n = ap (λ (p : Port). p.mode) (moved_at m r.ports sixteen n)

    size_renamed : (n : ℕ) → port_size (renumbered m r) n ≡ port_size r (source m n)
    unfolding port_size renumbered
    size_renamed n = ap (λ (p : Port). p.size) (moved_at m r.ports sixteen n)

    -- a number below 16 may come from nowhere; then it comes from 16, which is as no_port
    on_renamed : (n : ℕ) → port_on (renumbered m r) n ≡ port_on r (source m n)
    unfolding port_on renumbered
    on_renamed n = ap (λ (p : Port). ltb n port_count and p.on) (moved_at m r.ports sixteen n) ∙ go (dec_lt n port_count) (dec_lt (source m n) port_count)
      where
        go : Dec (n < port_count) → Dec (source m n < port_count)
            → (ltb n port_count and (get_or r.ports (source m n) no_port).on) ≡ (ltb (source m n) port_count and (get_or r.ports (source m n) no_port).on)
        go (yes a) (yes b) = and_yes _ (lt-ltb n port_count a) ∙ sym (and_yes _ (lt-ltb (source m n) port_count b))
        go (yes a) (no b) =
            and_yes _ (lt-ltb n port_count a)
            ∙ ap (λ (p : Port). p.on) (get_or-eq_default r.ports no_port {n = source m n} (omega arith))
            ∙ sym (and_no _ (le-ltb (source m n) port_count (omega arith)))
        go (no a) b =
            ap (λ (k : ℕ). ltb n port_count and (get_or r.ports k no_port).on) (source_other m n (omega arith))
            ∙ sym (ap (port_on r) (source_other m n (omega arith)))

    pub on_image : one_to_one m ≡ true → (n : ℕ) → port_on (renumbered m r) (image m n) ≡ port_on r n
    on_image ok n = on_renamed (image m n) ∙ ap (port_on r) (source_image m ok n)

    pub size_image : one_to_one m ≡ true → (n : ℕ) → port_size (renumbered m r) (image m n) ≡ port_size r n
    size_image ok n = size_renamed (image m n) ∙ ap (port_size r) (source_image m ok n)

    pub view_renamed : view_at clock (renumbered m r) ≡ rename_view m (view_at clock r)
    unfolding view_at rename_view renumbered is_local local_place hash_place
    view_renamed = λ i.
        record {
          own = r.own;
          rate = r.rate;
          on = λ n. on_renamed n i;
          mode = λ n. mode_renamed n i;
          size = λ n. size_renamed n i;
          local = is_local r;
          remembered = λ hash. ltb (hash_place clock r hash) hash_count;
          path = λ destination. path_renamed destination i;
          expired = λ destination. expired_renamed destination i;
          link = λ id. link_renamed id i;
          return = λ key. return_renamed key i;
          room_for_path = ltb (free_path_renamed i) path_count;
          room_for_link = ltb (free_link_renamed i) link_count;
        }
