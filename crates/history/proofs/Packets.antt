-- An accepted packet: what is known then agrees with what the packet writes.
use Prim.Native.Nat.{ℕ, suc, ◌+◌, ◌<◌}
use native.Mathlib.Omega.{arith}
use mathlib.Core.Bool.{Bool, true, false, false≢true}
use mathlib.Core.List.{List}
use mathlib.Core.Path.{◌≡◌, refl, sym, ap, ◌∙◌}
use borrow.Author.Tests.{ltb-false}
use Rattle.octets.specs.Choice.{◌then◌otherwise◌, same}
use Rattle.octets.proofs.Index.{and_yes}
use Rattle.octets.proofs.Choice.{or_no_left, same_eq}
use Rattle.packet.specs.Header.{is_data}
use Rattle.packet.specs.Hash.{link_id}
use Rattle.numbers.specs.Numbers.{link_count, hash_count, hash_lifetime}
use Rattle.rules.specs.Relay.{Slot, empty, used, make_remembered, Path, Relay, with_clock, with_paths, with_links, with_returns, with_hashes}
use Rattle.rules.specs.View.{View, view_at, is_live_path, is_live_link, is_live_return, is_live_hash, path_place, link_place, return_place, hash_place, free_path, free_link}
use Rattle.rules.specs.Arrival.{Arrival, header, destination, hash}
use Rattle.rules.specs.Ways.{Way, everywhere, by_path, along_link, by_return, blocked}
use Rattle.rules.specs.Tests.{is_there, already_known}
use Rattle.rules.specs.Judging.{Plan, dropped, delivered, follows, plan}
use Rattle.rules.specs.Writes.{remembers, remember, announced_path, announced_place, put_path, limit_path, return_key, return_record, put_return, empty_return, link_record, put_link, renewed_link, renew_link, write_way, is_rate_drop, write_drop, write_plan, stamp, enact}
use Rattle.rules.specs.declared.Link.{Link}
use Rattle.rules.proofs.Choices.{either}
use Rattle.rules.proofs.Slots.{found_key, not_found}
use Rattle.rules.proofs.Followed.{Followed, Planned, is_request, planned, remembered_new}
use Rattle.rules.proofs.Stamped.{plan_hashes}
use Rattle.rules.proofs.UniqueAt.{UniqueAt}
use Rattle.history.specs.Known.{Known, now_under, now_path, now_link, now_return, now_until, now_clock, change_path}
use Rattle.history.specs.After.{after_way, limited_path, after_drop, after_plan, after_hash, after_packet}
use Rattle.history.specs.Opinion.{list_limit}
use Rattle.history.proofs.Looking.{tells_same}
use Rattle.history.proofs.Holding.{InTable, InRing, table_new, table_over, table_changed, table_gone, ring_new, ring_over, ring_anew, ring_more}
use Rattle.history.proofs.Agrees.{path_kind, link_kind, return_kind, hash_kind, hashes_of, Agrees, agrees_more, paths_agree, links_agree, returns_agree, hashes_agree, clock_agrees}

nothing : {A : Type 0} (s : Slot A) → is_there s ≡ false → s ≡ empty
unfolding is_there
nothing empty h = refl
nothing (used x) h = absurd (false≢true (sym h))

module _ (a : Arrival) (r : Relay) (u : UniqueAt a.clock r) (n : ℕ) (under : n < list_limit) (k : Known) (h : Agrees a.clock n k r) where
  abbrev now : ℕ
  now = a.clock

  -- ---- the tables
  announced : (v : View) (known : Slot Path) → (view_at now r).path (destination a) ≡ known
      → InTable path_kind now (suc n) (put_path v a known r).paths (now_under (destination a) (used (announced_path v a known)) k.path)
  unfolding put_path with_paths announced_place view_at path_place is_live_path free_path announced_path
  announced v empty f = table_new h.paths under (destination a) f (announced_path v a empty) refl
  announced v (used p) f = table_over h.paths u.paths.0 (destination a) p f (announced_path v a (used p)) refl

  limited : (v : View) (known : Slot Path) → (view_at now r).path (destination a) ≡ known
      → Agrees now (suc n) (change_path (destination a) (limited_path v a) k) (limit_path v a known r)
  unfolding change_path limit_path with_paths view_at path_place is_live_path limited_path
  limited v empty f = paths_agree (agrees_more h) (destination a) _ (table_gone h.paths (destination a) f (limited_path v a) (λ _ _. refl))
  limited v (used p) f =
      paths_agree (agrees_more h) (destination a) _ (table_changed h.paths u.paths.0 (destination a) p f (limited_path v a) (λ _. refl))

  returned : (p : Path) → InRing return_kind now (suc n) (put_return a p r).returns (now_under (return_key a) (used (return_record a p)) k.return)
  unfolding put_return with_returns is_live_return return_record
  returned p = ring_anew h.returns (omega arith) (return_key a) (return_record a p) refl

  asked : (p : Path) → is_there ((view_at now r).link (link_id a.bytes)) ≡ false
      → InTable link_kind now (suc n) (put_link a p r).links (now_under (link_id a.bytes) (used (link_record a p)) k.link)
  unfolding put_link with_links view_at link_place is_live_link free_link link_record
  asked p new = table_new h.links under (link_id a.bytes) (nothing _ new) (link_record a p) refl

  renewed : (l : Link) → (view_at now r).link (destination a) ≡ used l
      → InTable link_kind now (suc n) (renew_link a l r).links (now_under (destination a) (used (renewed_link a l)) k.link)
  unfolding renew_link with_links view_at link_place is_live_link renewed_link
  renewed l f =
      table_over h.links u.links (destination a) l f (renewed_link a l)
      (found_key (link_kind.alive now) (λ l. l.id) (destination a) link_count r.links h.links.tells.size l f).0

  -- ---- all of them
  path_agrees : (p : Path) → Followed (view_at now r) a (by_path p) → (b : Bool) → is_data (header a) ≡ b
      → Agrees now (suc n)
      (b then now_return (return_key a) (used (return_record a p)) k otherwise now_link (link_id a.bytes) (used (link_record a p)) k)
      (b then put_return a p r otherwise put_link a p r)
  unfolding put_return put_link with_returns with_links already_known ◌then◌otherwise◌
  path_agrees p f true e = returns_agree (agrees_more h) (return_key a) _ (returned p)
  path_agrees p f false e =
      links_agree (agrees_more h) (link_id a.bytes) _
      (asked p (sym (and_yes _ (is_request (header a) f.found.1 f.found.2 e)) ∙ or_no_left _ _ f.unknown))

  way_agrees : (v : View) (w : Way) → Followed (view_at now r) a w → Agrees now (suc n) (after_way v a w k) (write_way v a w r)
  unfolding after_way write_way put_path put_return put_link renew_link empty_return with_paths with_links with_returns view_at return_place is_live_return
  way_agrees v (everywhere known) f = paths_agree (agrees_more h) (destination a) _ (announced v known f.found)
  way_agrees v (by_path p) f = path_agrees p f (is_data (header a)) refl
  way_agrees v (along_link l) f = links_agree (agrees_more h) (destination a) _ (renewed l f.found)
  way_agrees v (by_return t) f =
      returns_agree (agrees_more h) (destination a) empty (ring_more (ring_over h.returns u.returns (destination a) t f.found))
  way_agrees v (blocked why) f = agrees_more h

  drop_agrees : (b : Bool) → Agrees now (suc n) (b then change_path (destination a) (limited_path (view_at now r) a) k otherwise k)
      (b then limit_path (view_at now r) a ((view_at now r).path (destination a)) r otherwise r)
  unfolding ◌then◌otherwise◌
  drop_agrees true = limited (view_at now r) ((view_at now r).path (destination a)) refl
  drop_agrees false = agrees_more h

  plan_agrees : (todo : Plan) → Planned (view_at now r) a todo → Agrees now (suc n) (after_plan (view_at now r) a todo k) (write_plan (view_at now r) a todo r)
  unfolding after_plan after_drop write_plan write_drop
  plan_agrees (dropped reason) f = drop_agrees (is_rate_drop reason)
  plan_agrees delivered f = agrees_more h
  plan_agrees (follows w) f = way_agrees (view_at now r) w f

  -- ---- the hash, which was not remembered
  hash_known : (time : ℕ) (j : List ℕ)
      → now_under (hash a) (used (make_remembered (hash a) time)) (hashes_of k.until) j ≡ hashes_of (now_under (hash a) time k.until) j
  unfolding now_under ◌then◌otherwise◌
  hash_known time j = go (same (hash a) j) refl
    where
      go : (b : Bool) → same (hash a) j ≡ b
          → (b then used (make_remembered (hash a) time) otherwise used (make_remembered j (k.until j)))
          ≡ used (make_remembered j (b then time otherwise k.until j))
      go true e = ap (λ (x : List ℕ). used (make_remembered x time)) (same_eq (hash a) j e)
      go false e = refl

  hash_put : (view_at now r).remembered (hash a) ≡ false
      → InRing hash_kind now (suc n) (remember a r).hashes (hashes_of (now_under (hash a) (now + hash_lifetime) k.until))
  unfolding remember with_hashes view_at hash_place is_live_hash
  hash_put new =
      let put = ring_new h.hashes (omega arith) (hash a) (not_found _ hash_count r.hashes.slots h.hashes.tells.size (ltb-false _ _ new))
      (make_remembered (hash a) (now + hash_lifetime)) refl in
      record { tells = tells_same (hash_known (now + hash_lifetime)) put.tells; unturned = put.unturned }

-- what is planned leaves the hashes
way_until : (v : View) (a : Arrival) (w : Way) (k : Known) → (after_way v a w k).until ≡ k.until
unfolding after_way now_path now_link now_return
way_until v a (everywhere known) k = refl
way_until v a (by_path p) k = either (λ (x : Known). x.until ≡ k.until) (is_data (header a)) (λ _. refl) (λ _. refl)
way_until v a (along_link l) k = refl
way_until v a (by_return t) k = refl
way_until v a (blocked why) k = refl

plan_until : (v : View) (a : Arrival) (todo : Plan) (k : Known) → (after_plan v a todo k).until ≡ k.until
unfolding after_plan after_drop change_path now_path
plan_until v a (dropped reason) k = either (λ (x : Known). x.until ≡ k.until) (is_rate_drop reason) (λ _. refl) (λ _. refl)
plan_until v a delivered k = refl
plan_until v a (follows w) k = way_until v a w k

-- ---- the packet
module _ (a : Arrival) (r : Relay) (u : UniqueAt a.clock r) (n : ℕ) (under : n < list_limit) (k : Known) (h : Agrees a.clock n k r) where
  abbrev v : View
  v = view_at a.clock r

  abbrev todo : Plan
  todo = plan v a

  written : Agrees a.clock (suc n) (now_clock a.clock (after_plan v a todo k)) (with_clock a.clock (write_plan v a todo r))
  written = clock_agrees (plan_agrees a r u n under k h todo (planned v a)) a.clock

  packet_hash_lem : (b : Bool) → remembers v a todo ≡ b
      → Agrees a.clock (suc n)
      (b then now_until (hash a) (a.clock + hash_lifetime) (now_clock a.clock (after_plan v a todo k)) otherwise now_clock a.clock (after_plan v a todo k))
      (stamp a b (write_plan v a todo r))
  unfolding stamp remember with_hashes with_clock now_clock ◌then◌otherwise◌
  packet_hash_lem true e =
      hashes_agree written (hash a) (a.clock + hash_lifetime)
      (rw (plan_hashes, plan_until) (hash_put a r u n under k h (remembered_new v a e)))
  packet_hash_lem false e = written

  pub packet_agrees : Agrees a.clock (suc n) (after_packet v a todo k) (enact v a todo r)
  unfolding after_packet after_hash enact
  packet_agrees = packet_hash_lem (remembers v a todo) refl
