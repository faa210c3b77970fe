-- What an accepted packet writes makes no second live record of a key. The relay s that is written into shows, at the packet's clock, what the
-- packet was judged by.
use Prim.Native.Nat.{ℕ}
use mathlib.Core.Bool.{Bool, true, false, false≢true}
use mathlib.Core.List.{List, map}
use mathlib.Core.Path.{◌≡◌, refl, sym, subst, ◌∙◌}
use lib.Dec.{lit≤}
use lib.ListN.{length, get_or}
use borrow.Author.Tests.{ltb-false}
use Rattle.octets.proofs.Index.{and_both, and_yes}
use Rattle.octets.proofs.Choice.{or_no_left, eq_same}
use Rattle.packet.specs.Hash.{link_id}
use Rattle.numbers.specs.Numbers.{path_count, link_count, hash_count, blob_limit, live}
use Rattle.rules.specs.Relay.{Slot, empty, used, Path, Return, Relay, with_path_rate, with_paths, with_links, with_returns, with_hashes}
use Rattle.rules.specs.View.{View, view_at, is_live_path, is_live_link, is_live_return, is_live_hash, path_place, link_place, hash_place}
use Rattle.rules.specs.Refusals.{slot_ok, path_ok, link_ok, hash_ok}
use Rattle.rules.specs.Arrival.{Arrival, header, destination, hash, blob}
use Rattle.rules.specs.Blobs.{held}
use Rattle.rules.specs.Rate.{entry_dropped}
use Rattle.rules.specs.Ways.{Way, everywhere, by_path, along_link, by_return, blocked}
use Rattle.rules.specs.Tests.{is_there, already_known}
use Rattle.rules.specs.Judging.{Plan, dropped, delivered, follows}
use Rattle.rules.specs.Writes.{put_next, remember, announced_blobs, announced_path, announced_place, put_path, limit_path, return_key, return_record, emptied_if, emptied_where, put_return, empty_return, link_record, put_link, renewed_link, renew_link}
use Rattle.rules.specs.declared.Link.{Link}
use Rattle.rules.proofs.Tables.{table_length, table_get_d}
use Rattle.rules.proofs.Slots.{emptied_at, every_set, single_emptied, single_emptied_where, single_set, not_found, found_key, none_live, found_alone}
use Rattle.rules.proofs.BlobLaws.{Distinct, Counted, Placed, one_placed, one_distinct, store_placed, store_distinct}
use Rattle.rules.proofs.Followed.{Followed, Planned, is_request}
use Rattle.rules.proofs.Ranges.{path_counted}
use Rattle.rules.proofs.Held.{WayKeeps, PlanKeeps}
use Rattle.rules.proofs.Valid.{Valid}
use Rattle.rules.proofs.UniqueAt.{once_at, UniqueAt}

there_not : {A : Type 0} (s : Slot A) → is_there s ≡ false → s ≡ empty
unfolding is_there
there_not empty h = refl
there_not (used x) h = absurd (false≢true (sym h))

module _ (a : Arrival) (s : Relay) (valid : Valid s) (u : UniqueAt a.clock s) where
  path_size : length s.paths ≡ path_count
  path_size = table_length (slot_ok path_ok) path_count s.paths valid.paths

  link_size : length s.links ≡ link_count
  link_size = table_length (slot_ok link_ok) link_count s.links valid.links

  -- ---- paths: a known path keeps its slot, and a new one has no live path of its destination beside it
  announced_alone : (known : Slot Path) → (view_at a.clock s).path (destination a) ≡ known
      → (j : ℕ) (x : Path) → (j ≡ announced_place a known s → ⊥) → get_or s.paths j empty ≡ used x
      → live a.clock x.expiry ≡ true → x.destination ≡ destination a → ⊥
  unfolding view_at announced_place path_place is_live_path
  announced_alone empty f j x other = none_live _ _ (destination a) path_count s.paths path_size f j x
  announced_alone (used p) f j x other = found_alone _ _ (destination a) path_count s.paths path_size u.paths.0 j x other

  known_counted : (p : Path) → (view_at a.clock s).path (destination a) ≡ used p → Counted blob_limit p.blobs.count
  unfolding view_at slot_ok
  known_counted p f =
      path_counted p
      (subst (λ (t : Slot Path). slot_ok path_ok t ≡ true) f (table_get_d (slot_ok path_ok) path_count s.paths valid.paths _ empty refl))

  announced_placed : (known : Slot Path) → (view_at a.clock s).path (destination a) ≡ known → Placed blob_limit (announced_blobs a known)
  unfolding view_at announced_blobs
  announced_placed empty f = one_placed blob_limit (lit≤ tt) (blob a)
  announced_placed (used p) f =
      store_placed blob_limit (lit≤ tt) (blob a) p.blobs
      (known_counted p f) (u.paths.2 _ p f refl)

  announced_distinct : (known : Slot Path) → (view_at a.clock s).path (destination a) ≡ known → Distinct (held (announced_blobs a known))
  unfolding view_at announced_blobs path_place is_live_path
  announced_distinct empty f = one_distinct blob_limit (lit≤ tt) (blob a)
  announced_distinct (used p) f =
      store_distinct blob_limit (lit≤ tt) (blob a) p.blobs
      (known_counted p f) (u.paths.2 _ p f refl)
      (u.paths.1 _ p f (found_key _ _ (destination a) path_count s.paths path_size p f).1)

  put_path_lem : (v : View) (known : Slot Path) → (view_at a.clock s).path (destination a) ≡ known → (once_at a.clock).paths (put_path v a known s).paths
  unfolding put_path with_paths announced_path
  put_path_lem v known f =
      let p : Path = announced_path v a known in
      let place : ℕ = announced_place a known s in (
        single_set _ _ s.paths place p u.paths.0 (announced_alone known f),
        every_set _ _ s.paths place p u.paths.1 (announced_distinct known f),
        every_set _ _ s.paths place p u.paths.2 (announced_placed known f),
      )

  -- a rate drop leaves destination, expiry and blobs
  limit_path_lem : (v : View) (known : Slot Path) → (view_at a.clock s).path (destination a) ≡ known → (once_at a.clock).paths (limit_path v a known s).paths
  unfolding limit_path with_paths view_at path_place is_live_path
  limit_path_lem v empty f = u.paths
  limit_path_lem v (used p) f =
      let q : Path = with_path_rate (entry_dropped v.rate a.clock p.rate) p in
      let (to, lives) = found_key _ _ (destination a) path_count s.paths path_size p f in (
        single_set _ _ s.paths _ q u.paths.0
            (λ j x other e l k. found_alone _ _ (destination a) path_count s.paths path_size u.paths.0 j x other e l (k ∙ to)),
        every_set _ _ s.paths _ q u.paths.1 (u.paths.1 _ p f lives),
        every_set _ _ s.paths _ q u.paths.2 (u.paths.2 _ p f refl),
      )

  -- ---- return records: any other live one of the same key is emptied
  put_return_lem : (p : Path) → (once_at a.clock).returns (put_return a p s).returns
  unfolding put_return with_returns put_next emptied_where return_record is_live_return
  put_return_lem p =
      let test : Return → Bool = is_live_return a.clock (return_key a) in
      let others : List (Slot Return) = s.returns.slots in
      single_set _ _ (map (emptied_if test) others) s.returns.next (return_record a p) (single_emptied_where _ _ test others u.returns)
      (λ j x _ e l q. false≢true (sym (emptied_at test others j x e).1 ∙ and_both (eq_same x.key (return_key a) q) l))

  -- ---- links: a new one's id is not live, and a carried packet's link keeps its slot and id
  put_link_lem : (p : Path) → is_there ((view_at a.clock s).link (link_id a.bytes)) ≡ false → (once_at a.clock).links (put_link a p s).links
  unfolding put_link with_links view_at link_place is_live_link link_record
  put_link_lem p new =
      single_set _ _ s.links _ (link_record a p) u.links
      (λ j x _. none_live _ _ (link_id a.bytes) link_count s.links link_size (there_not _ new) j x)

  renew_link_lem : (l : Link) → (view_at a.clock s).link (destination a) ≡ used l → (once_at a.clock).links (renew_link a l s).links
  unfolding renew_link with_links view_at link_place is_live_link renewed_link
  renew_link_lem l f =
      let found : l.id ≡ destination a = (found_key _ _ (destination a) link_count s.links link_size l f).0 in
      single_set _ _ s.links _ (renewed_link a l) u.links
      (λ j x other e alive q. found_alone _ _ (destination a) link_count s.links link_size u.links j x other e alive (q ∙ found))

  way_keeps : (v : View) (w : Way) → Followed (view_at a.clock s) a w → WayKeeps (once_at a.clock) v a s w
  unfolding already_known empty_return with_returns
  way_keeps v (everywhere known) f = put_path_lem v known f.found
  way_keeps v (by_path p) f = (
    λ _. put_return_lem p,
    λ data₀. put_link_lem p (sym (and_yes _ (is_request (header a) f.found.1 f.found.2 data₀)) ∙ or_no_left _ _ f.unknown),
  )
  way_keeps v (along_link l) f = renew_link_lem l f.found
  way_keeps v (by_return t) f = single_emptied _ _ s.returns.slots _ u.returns
  way_keeps v (blocked why) f = tt

  pub plan_keeps : (todo : Plan) → Planned (view_at a.clock s) a todo → PlanKeeps (once_at a.clock) (view_at a.clock s) a s todo
  plan_keeps (dropped reason) h = λ _. limit_path_lem (view_at a.clock s) _ refl
  plan_keeps delivered h = tt
  plan_keeps (follows w) h = way_keeps (view_at a.clock s) w h

  -- ---- remembered hashes
  pub hash_put : (view_at a.clock s).remembered (hash a) ≡ false → (once_at a.clock).hashes (remember a s).hashes
  unfolding remember with_hashes put_next view_at hash_place is_live_hash
  hash_put new =
      let size : length s.hashes.slots ≡ hash_count = table_length (slot_ok hash_ok) hash_count s.hashes.slots valid.hashes.0 in
      single_set _ _ s.hashes.slots _ _ u.hashes
      (λ j x _. none_live _ _ (hash a) hash_count s.hashes.slots size (not_found _ hash_count s.hashes.slots size (ltb-false _ _ new)) j x)
