-- What a renamed packet writes into a renumbered relay: what it wrote, renamed.
use Prim.Native.Nat.{ℕ, ◌+◌, ◌%◌}
use mathlib.Core.Bool.{Bool, true, false, not}
use mathlib.Core.List.{List, map}
use mathlib.Core.Path.{◌≡◌, refl, sym, ap, ap₂, ◌∙◌}
use lib.ListN.{set}
use Rattle.octets.specs.Index.{◌and◌}
use Rattle.octets.specs.Choice.{◌then◌otherwise◌}
use Rattle.octets.proofs.Choice.{then_ap}
use Rattle.packet.specs.Header.{type_two, is_data}
use Rattle.numbers.specs.Numbers.{path_lifetime, return_count}
use Rattle.notes.specs.Notes.{no_notes}
use Rattle.rules.specs.Relay.{Slot, empty, used, Path, Return, with_path_rate, Relay, with_clock, with_paths, with_links, with_returns, with_hashes}
use Rattle.rules.specs.View.{View, view_at, is_live_return, path_place, link_place, return_place, free_link}
use Rattle.rules.specs.Renumbering.{image, one_to_one, rename_path, rename_link, rename_return, rename_slot, renumbered}
use Rattle.rules.specs.Arrival.{Arrival, header, hops, relay_address, destination, hash}
use Rattle.rules.specs.Exempt.{exempt}
use Rattle.rules.specs.Rate.{entry_dropped}
use Rattle.rules.specs.Ways.{Way, everywhere, by_path, along_link, by_return, blocked}
use Rattle.rules.specs.Tests.{revives}
use Rattle.rules.specs.Judging.{Plan, dropped, delivered, follows}
use Rattle.rules.specs.Writes.{put_next, remembers_plan, already_live, remembers, remember, announced_blobs, announced_rate, announced_path, announced_place, put_path, limit_path, noted_slot, note_path, return_key, return_record, emptied_if, emptied_where, put_return, empty_return, link_record, put_link, renewed_link, renew_link, write_way, is_rate_drop, write_drop, write_plan, stamp, enact}
use Rattle.rules.specs.Run.{rename_arrival}
use Rattle.rules.specs.declared.Link.{Link}
use Rattle.rules.specs.declared.Reason.{Reason}
use Rattle.notes.specs.declared.Note.{Note}
use Rattle.rules.proofs.Images.{source_image}
use Rattle.rules.proofs.SlotsRenamed.{set_renamed, emptied_renamed}
use Rattle.rules.proofs.ViewRenamed.{rename_view, path_renamed, path_place_renamed, link_place_renamed, return_place_renamed, free_path_renamed, free_link_renamed}
use Rattle.rules.proofs.TestsRenamed.{rename_way, for_marked_path_renamed}
use Rattle.rules.proofs.PlanRenamed.{rename_plan}

module _ (m : List ℕ) where
  -- ---- clock and remembered hashes: nothing is renamed there
  with_clock_renamed : (clock : ℕ) (r : Relay) → with_clock clock (renumbered m r) ≡ renumbered m (with_clock clock r)
  unfolding with_clock renumbered
  with_clock_renamed clock r = refl

  remember_renamed : (a : Arrival) (r : Relay) → remember (rename_arrival m a) (renumbered m r) ≡ renumbered m (remember a r)
  unfolding remember with_hashes renumbered rename_arrival
  remember_renamed a r = refl

  remembers_plan_renamed : (todo : Plan) → remembers_plan (rename_plan m todo) ≡ remembers_plan todo
  unfolding remembers_plan rename_plan
  remembers_plan_renamed (dropped reason) = refl
  remembers_plan_renamed delivered = refl
  remembers_plan_renamed (follows w) = refl

  remembers_renamed : (v : View) (a : Arrival) (todo : Plan) → remembers (rename_view m v) (rename_arrival m a) (rename_plan m todo) ≡ remembers v a todo
  unfolding remembers already_live rename_view rename_arrival
  remembers_renamed v a todo =
      ap₂ (λ (b c : Bool). not (exempt a.bytes) and not (b and v.remembered (hash a)) and c)
      (for_marked_path_renamed m v a) (remembers_plan_renamed todo)

  -- ---- one table put in the place of another
  paths_renamed : (paths : List (Slot Path)) (r : Relay)
      → with_paths (map (rename_slot (rename_path m)) paths) (renumbered m r) ≡ renumbered m (with_paths paths r)
  unfolding with_paths renumbered
  paths_renamed paths r = refl

  links_renamed : (links : List (Slot Link)) (r : Relay)
      → with_links (map (rename_slot (rename_link m)) links) (renumbered m r) ≡ renumbered m (with_links links r)
  unfolding with_links renumbered
  links_renamed links r = refl

  returns_renamed : (slots : List (Slot Return)) (next : ℕ) (r : Relay)
      → with_returns (record { slots = map (rename_slot (rename_return m)) slots; next = next }) (renumbered m r)
      ≡ renumbered m (with_returns (record { slots = slots; next = next }) r)
  unfolding with_returns renumbered
  returns_renamed slots next r = refl

  -- ---- links
  link_record_renamed : (a : Arrival) (p : Path) → link_record (rename_arrival m a) (rename_path m p) ≡ rename_link m (link_record a p)
  unfolding link_record rename_arrival rename_path rename_link
  link_record_renamed a p = refl

  renewed_link_renamed : (a : Arrival) (l : Link) → renewed_link (rename_arrival m a) (rename_link m l) ≡ rename_link m (renewed_link a l)
  unfolding renewed_link rename_arrival rename_link
  renewed_link_renamed a l = refl

  put_link_renamed : (a : Arrival) (p : Path) (r : Relay)
      → put_link (rename_arrival m a) (rename_path m p) (renumbered m r) ≡ renumbered m (put_link a p r)
  unfolding put_link renumbered rename_arrival rename_slot
  put_link_renamed a p r =
      ap (λ (links : List (Slot Link)). with_links links (renumbered m r))
      (set_renamed (rename_link m) r.links _ _ _ (used (link_record a p)) (free_link_renamed m a.clock r) (ap used (link_record_renamed a p)))
      ∙ links_renamed (set r.links (free_link a.clock r) (used (link_record a p))) r

  renew_link_renamed : (a : Arrival) (l : Link) (r : Relay)
      → renew_link (rename_arrival m a) (rename_link m l) (renumbered m r) ≡ renumbered m (renew_link a l r)
  unfolding renew_link renumbered rename_arrival rename_slot
  renew_link_renamed a l r =
      ap (λ (links : List (Slot Link)). with_links links (renumbered m r))
      (set_renamed (rename_link m) r.links _ _ _ (used (renewed_link a l)) (link_place_renamed m a.clock r (destination a))
      (ap used (renewed_link_renamed a l)))
      ∙ links_renamed (set r.links (link_place a.clock r (destination a)) (used (renewed_link a l))) r

  -- ---- return records
  return_record_renamed : (a : Arrival) (p : Path) → return_record (rename_arrival m a) (rename_path m p) ≡ rename_return m (return_record a p)
  unfolding return_record return_key rename_arrival rename_path rename_return
  return_record_renamed a p = refl

  put_return_renamed : (a : Arrival) (p : Path) (r : Relay)
      → put_return (rename_arrival m a) (rename_path m p) (renumbered m r) ≡ renumbered m (put_return a p r)
  unfolding put_return put_next emptied_where return_key renumbered rename_arrival rename_slot rename_return is_live_return
  put_return_renamed a p r =
      let others : Return → Bool = is_live_return a.clock (return_key a) in
      let next : ℕ = r.returns.next in
      ap (λ (slots : List (Slot Return)). with_returns (record { slots = slots; next = (next + 1) % return_count }) (renumbered m r))
      (ap₂ (λ (slots : List (Slot Return)) (t : Return). set slots next (used t))
      (emptied_renamed (rename_return m) others (λ t. refl) r.returns.slots)
      (return_record_renamed a p)
      ∙ set_renamed (rename_return m) (map (emptied_if others) r.returns.slots) next next _ (used (return_record a p)) refl refl)
      ∙ returns_renamed (set (map (emptied_if others) r.returns.slots) next (used (return_record a p))) _ r

  empty_return_renamed : (a : Arrival) (r : Relay) → empty_return (rename_arrival m a) (renumbered m r) ≡ renumbered m (empty_return a r)
  unfolding empty_return renumbered rename_arrival rename_slot
  empty_return_renamed a r =
      ap (λ (slots : List (Slot Return)). with_returns (record { slots = slots; next = r.returns.next }) (renumbered m r))
      (set_renamed (rename_return m) r.returns.slots _ _ empty empty (return_place_renamed m a.clock r (destination a)) refl)
      ∙ returns_renamed (set r.returns.slots (return_place a.clock r (destination a)) empty) _ r

-- ---- paths: a lifetime goes by the mode of the arrival port
module _ (m : List ℕ) (ok : one_to_one m ≡ true) where
  announced_blobs_renamed : (a : Arrival) (known : Slot Path)
      → announced_blobs (rename_arrival m a) (rename_slot (rename_path m) known) ≡ announced_blobs a known
  unfolding announced_blobs rename_arrival rename_slot rename_path
  announced_blobs_renamed a empty = refl
  announced_blobs_renamed a (used p) = refl

  announced_rate_renamed : (v : View) (a : Arrival) (known : Slot Path)
      → announced_rate (rename_view m v) (rename_arrival m a) (rename_slot (rename_path m) known) ≡ announced_rate v a known
  unfolding announced_rate revives rename_view rename_arrival rename_slot rename_path
  announced_rate_renamed v a empty = refl
  announced_rate_renamed v a (used p) = refl

  announced_path_renamed : (v : View) (a : Arrival) (known : Slot Path)
      → announced_path (rename_view m v) (rename_arrival m a) (rename_slot (rename_path m) known) ≡ rename_path m (announced_path v a known)
  unfolding announced_path rename_view rename_arrival rename_path
  announced_path_renamed v a known = λ i.
      record {
        destination = destination a;
        port = image m a.port;
        hops = hops a;
        next_hop = type_two (header a) then relay_address a otherwise destination a;
        expiry = a.clock + path_lifetime (v.mode (source_image m ok a.port i));
        rate = announced_rate_renamed v a known i;
        notes = no_notes;
        blobs = announced_blobs_renamed a known i;
      }

  announced_place_renamed : (a : Arrival) (known : Slot Path) (r : Relay)
      → announced_place (rename_arrival m a) (rename_slot (rename_path m) known) (renumbered m r) ≡ announced_place a known r
  unfolding announced_place rename_arrival rename_slot
  announced_place_renamed a empty r = free_path_renamed m a.clock r
  announced_place_renamed a (used p) r = path_place_renamed m a.clock r (destination a)

  put_path_renamed : (v : View) (a : Arrival) (known : Slot Path) (r : Relay)
      → put_path (rename_view m v) (rename_arrival m a) (rename_slot (rename_path m) known) (renumbered m r) ≡ renumbered m (put_path v a known r)
  unfolding put_path renumbered rename_slot
  put_path_renamed v a known r =
      ap (λ (paths : List (Slot Path)). with_paths paths (renumbered m r))
      (set_renamed (rename_path m) r.paths _ _ _ (used (announced_path v a known)) (announced_place_renamed a known r)
      (ap used (announced_path_renamed v a known)))
      ∙ paths_renamed m (set r.paths (announced_place a known r) (used (announced_path v a known))) r

  -- ---- a note
  noted_renamed : (note : Note) (slot : Slot Path) → noted_slot note (rename_slot (rename_path m) slot) ≡ rename_slot (rename_path m) (noted_slot note slot)
  unfolding noted_slot rename_slot rename_path
  noted_renamed note empty = refl
  noted_renamed note (used p) = refl

  pub note_renamed : (note : Note) (destination : List ℕ) (clock : ℕ) (r : Relay)
      → with_clock clock (note_path note destination clock (renumbered m r)) ≡ renumbered m (with_clock clock (note_path note destination clock r))
  unfolding note_path
  note_renamed note destination clock r =
      let slot : Slot Path = (view_at clock r).path destination in
      ap (λ (paths : List (Slot Path)). with_clock clock (with_paths paths (renumbered m r)))
      (ap
      (λ (paths : List (Slot Path)).
      set paths (path_place clock (renumbered m r) destination) (noted_slot note ((view_at clock (renumbered m r)).path destination)))
      (paths_of r)
      ∙ set_renamed (rename_path m) r.paths _ _ _ (noted_slot note slot) (path_place_renamed m clock r destination)
      (ap (noted_slot note) (path_renamed m clock r destination) ∙ noted_renamed note slot))
      ∙ ap (with_clock clock) (paths_renamed m (set r.paths (path_place clock r destination) (noted_slot note slot)) r)
      ∙ with_clock_renamed m clock (note_path note destination clock r)
    where
      paths_of : (r : Relay) → (renumbered m r).paths ≡ map (rename_slot (rename_path m)) r.paths
      paths_of r = unfold renumbered in refl

  -- ---- a rate drop
  limit_path_renamed : (v : View) (a : Arrival) (known : Slot Path) (r : Relay)
      → limit_path (rename_view m v) (rename_arrival m a) (rename_slot (rename_path m) known) (renumbered m r) ≡ renumbered m (limit_path v a known r)
  unfolding limit_path renumbered rename_view rename_arrival rename_slot rename_path
  limit_path_renamed v a empty r = refl
  limit_path_renamed v a (used p) r =
      let q : Path = with_path_rate (entry_dropped v.rate a.clock p.rate) p in
      ap (λ (paths : List (Slot Path)). with_paths paths (renumbered m r))
      (set_renamed (rename_path m) r.paths _ _ _ (used q) (path_place_renamed m a.clock r (destination a)) refl)
      ∙ paths_renamed m (set r.paths (path_place a.clock r (destination a)) (used q)) r

  write_drop_renamed : (v : View) (a : Arrival) (reason : Reason) (r : Relay)
      → write_drop (rename_view m v) (rename_arrival m a) reason (renumbered m r) ≡ renumbered m (write_drop v a reason r)
  unfolding write_drop rename_view rename_arrival
  write_drop_renamed v a reason r =
      ap (λ (x : Relay). is_rate_drop reason then x otherwise renumbered m r) (limit_path_renamed v a (v.path (destination a)) r)
      ∙ sym (then_ap (renumbered m) (is_rate_drop reason) (limit_path v a (v.path (destination a)) r) r)

  -- ---- all of it
  write_way_renamed : (v : View) (a : Arrival) (w : Way) (r : Relay)
      → write_way (rename_view m v) (rename_arrival m a) (rename_way m w) (renumbered m r) ≡ renumbered m (write_way v a w r)
  unfolding write_way rename_way rename_arrival
  write_way_renamed v a (everywhere known) r = put_path_renamed v a known r
  write_way_renamed v a (by_path p) r =
      ap₂ (λ (x y : Relay). is_data (header a) then x otherwise y) (put_return_renamed m a p r) (put_link_renamed m a p r)
      ∙ sym (then_ap (renumbered m) (is_data (header a)) (put_return a p r) (put_link a p r))
  write_way_renamed v a (along_link l) r = renew_link_renamed m a l r
  write_way_renamed v a (by_return t) r = empty_return_renamed m a r
  write_way_renamed v a (blocked why) r = refl

  write_plan_renamed : (v : View) (a : Arrival) (todo : Plan) (r : Relay)
      → write_plan (rename_view m v) (rename_arrival m a) (rename_plan m todo) (renumbered m r) ≡ renumbered m (write_plan v a todo r)
  unfolding write_plan rename_plan
  write_plan_renamed v a (dropped reason) r = write_drop_renamed v a reason r
  write_plan_renamed v a delivered r = refl
  write_plan_renamed v a (follows w) r = write_way_renamed v a w r

  stamp_renamed : (a : Arrival) (remembered : Bool) (r : Relay) → stamp (rename_arrival m a) remembered (renumbered m r) ≡ renumbered m (stamp a remembered r)
  unfolding stamp rename_arrival ◌then◌otherwise◌
  stamp_renamed a true r =
      ap (remember (rename_arrival m a)) (with_clock_renamed m a.clock r) ∙ remember_renamed m a (with_clock a.clock r)
  stamp_renamed a false r = with_clock_renamed m a.clock r

  pub enact_renamed : (v : View) (a : Arrival) (todo : Plan) (r : Relay)
      → enact (rename_view m v) (rename_arrival m a) (rename_plan m todo) (renumbered m r) ≡ renumbered m (enact v a todo r)
  unfolding enact
  enact_renamed v a todo r =
      ap₂ (stamp (rename_arrival m a)) (remembers_renamed m v a todo) (write_plan_renamed v a todo r)
      ∙ stamp_renamed a (remembers v a todo) (write_plan v a todo r)
