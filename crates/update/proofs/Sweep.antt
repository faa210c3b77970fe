-- Every live return record of a key emptied, one place after the other.
use Prim.Native.Nat.{ℕ, ◌+◌, ◌*◌, ◌≤◌, ◌<◌}
use native.Mathlib.Omega.{arith}
use mathlib.Core.Bool.{Bool, true, false}
use mathlib.Core.List.{List, map}
use mathlib.Core.Path.{◌≡◌, refl, sym, ap, subst, ◌∙◌}
use lib.ListN.{length, get_or, set, length-map, get_or-map}
use lib.Seq.{set-get_or}
use Rattle.octets.specs.Bytes.{Bytes}
use Rattle.octets.specs.Choice.{◌then◌otherwise◌}
use Rattle.octets.specs.Part.{patch}
use Rattle.octets.proofs.ListOf.{mixed, mixed_length, mixed_at, mixed_more, mixed_all}
use Rattle.codes.proofs.Inside.{item, ◌within◌}
use Rattle.numbers.specs.Numbers.{return_count}
use Rattle.rules.specs.Relay.{Slot, empty, Return, with_slots, Relay, holds, with_returns}
use Rattle.rules.specs.View.{is_live_return}
use Rattle.rules.specs.Writes.{emptied_if, emptied_where}
use Rattle.tables.specs.Places.{return_width, returns_at}
use Rattle.tables.specs.Records.{slot_of, slot_bytes, return_of, return_bytes}
use Rattle.tables.specs.Layout.{record_at, relay_of, bytes_of, well_formed}
use Rattle.tables.proofs.Patches.{returns_in, patch_return}
use Rattle.tables.proofs.Seen.{return_seen, returns_length}
use Rattle.tables.proofs.Whole.{again}
use Rattle.update.specs.Written.{return_emptied, emptied_if_live, returns_emptied}

-- a relay's return record, in its bytes
there : (r : Relay) (i : ℕ) → i < return_count → length r.returns.slots ≡ return_count
    → record_at returns_at return_width (bytes_of r) i ≡ slot_bytes return_width return_bytes (get_or r.returns.slots i empty)
unfolding bytes_of return_bytes
there r i l e = (item i l within returns_in).place.there r ((tt, tt), e)

module _ (clock : ℕ) (key t : List ℕ) where
  abbrev old : List (Slot Return)
  old = (relay_of t).returns.slots

  abbrev new : List (Slot Return)
  new = map (emptied_if (is_live_return clock key)) old

  -- the relay of t, with the first i places swept
  pub swept_to : ℕ → Relay
  swept_to i = with_returns (with_slots (mixed i new old) (relay_of t).returns) (relay_of t)

  alike : length new ≡ length old
  alike = length-map old (emptied_if (is_live_return clock key))

  pub sweep_done : (i : ℕ) → return_count ≤ i → bytes_of (swept_to i) ≡ returns_emptied clock key t
  unfolding swept_to returns_emptied emptied_where
  sweep_done i l =
      ap (λ (ss : List (Slot Return)). bytes_of (with_returns (with_slots ss (relay_of t).returns) (relay_of t)))
      (mixed_all new old alike i (subst (λ (n : ℕ). n ≤ i) (sym (returns_length t)) l))

  module _ (b : Bytes t) (h : well_formed t ≡ true) where
    pub sweep_none : t ≡ bytes_of (swept_to 0)
    unfolding swept_to with_returns
    sweep_none = sym (again t b h)

    module _ (u : List ℕ) (i : ℕ) (l : i < return_count) (e : u ≡ bytes_of (swept_to i)) where
      inside : i < length old
      inside = subst (λ (n : ℕ). i < n) (sym (returns_length t)) l

      all_there : length (swept_to i).returns.slots ≡ return_count
      unfolding swept_to with_returns
      all_there = mixed_length new old alike i (omega (arith, inside)) ∙ returns_length t

      -- place i is still as it was
      kept : slot_of return_of (record_at returns_at return_width u i) ≡ get_or old i empty
      unfolding swept_to with_returns
      kept =
          ap (slot_of return_of)
          (ap (λ (x : List ℕ). record_at returns_at return_width x i) e
          ∙ there (swept_to i) i l all_there
          ∙ ap (slot_bytes return_width return_bytes) (mixed_at new old alike i empty inside)
          ∙ sym (ap (λ (x : List ℕ). record_at returns_at return_width x i) (sym (again t b h)) ∙ there (relay_of t) i l (returns_length t)))
          ∙ sym (return_seen t i l)

      swept : get_or new i empty ≡ emptied_if (is_live_return clock key) (get_or old i empty)
      unfolding emptied_if holds ◌then◌otherwise◌
      swept = get_or-map (emptied_if (is_live_return clock key)) old i empty

      next_relay : (slot : Slot Return) → slot ≡ get_or new i empty
          → with_returns (with_slots (set (mixed i new old) i slot) (relay_of t).returns) (relay_of t) ≡ swept_to (i + 1)
      unfolding swept_to
      next_relay slot q =
          ap (λ (ss : List (Slot Return)). with_returns (with_slots ss (relay_of t).returns) (relay_of t))
          (ap (set (mixed i new old) i) q ∙ mixed_more new old alike i empty inside)

      pub sweep_more : (v : List ℕ) → v ≡ emptied_if_live clock key u i → v ≡ bytes_of (swept_to (i + 1))
      unfolding emptied_if_live return_emptied emptied_if swept_to with_returns ◌then◌otherwise◌
      sweep_more v w = go (holds (is_live_return clock key) (get_or old i empty)) refl
        where
          go : (x : Bool) → holds (is_live_return clock key) (get_or old i empty) ≡ x → v ≡ bytes_of (swept_to (i + 1))
          go true q =
              let gone : v ≡ patch u (returns_at + return_width * i) (slot_bytes return_width return_bytes empty) = w ∙ rw (kept, q) in
              let emptied : empty ≡ get_or new i empty = sym (swept ∙ rw q) in
              gone
              ∙ ap (λ (x : List ℕ). patch x (returns_at + return_width * i) (slot_bytes return_width return_bytes empty)) e
              ∙ patch_return (swept_to i) i empty all_there l
              ∙ ap bytes_of (next_relay empty emptied)
          go false q =
              let stays : v ≡ u = w ∙ rw (kept, q) in
              let same : get_or (mixed i new old) i empty ≡ get_or new i empty = mixed_at new old alike i empty inside ∙ sym (swept ∙ rw q) in
              stays
              ∙ e
              ∙ ap bytes_of
              (ap (λ (ss : List (Slot Return)). with_returns (with_slots ss (relay_of t).returns) (relay_of t)) (sym (set-get_or (mixed i new old) i empty))
              ∙ next_relay (get_or (mixed i new old) i empty) same)
