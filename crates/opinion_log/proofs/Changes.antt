-- What the effect of a packet says of its plan, and what one more entry changes of paths, links and return records.
use Prim.Native.Nat.{ℕ, ◌≤◌}
use mathlib.Core.Bool.{Bool, true, false}
use mathlib.Core.List.{List}
use mathlib.Core.Path.{◌≡◌, refl, sym, ap, ◌∙◌}
use lib.ListN.{length}
use Rattle.octets.specs.Choice.{◌then◌otherwise◌, same}
use Rattle.octets.proofs.Choice.{then_true, then_false}
use Rattle.packet.specs.Header.{is_data}
use Rattle.packet.specs.Hash.{link_id}
use Rattle.packet.specs.Places.{blob_end}
use Rattle.rules.specs.Relay.{Slot, empty, used, Path, Return}
use Rattle.rules.specs.View.{View}
use Rattle.rules.specs.Renumbering.{rename_slot}
use Rattle.rules.specs.Arrival.{Arrival, header, destination, body}
use Rattle.rules.specs.Ways.{Way, everywhere, by_path, along_link, by_return, blocked}
use Rattle.rules.specs.Judging.{Plan, dropped, delivered, follows, plan}
use Rattle.rules.specs.Writes.{announced_path, return_key, return_record, link_record, renewed_link, is_rate_drop}
use Rattle.rules.specs.declared.Link.{Link}
use Rattle.rules.specs.declared.Reason.{Reason}
use Rattle.rules.proofs.Choices.{either}
use Rattle.rules.proofs.Slots.{used_not_empty}
use Rattle.rules.proofs.Passed.{passed}
use Rattle.rules.proofs.ChattyPlan.{is_spread, spread_announce}
use Rattle.forms.proofs.KindLaws.{announce_long}
use Rattle.rules.proofs.Followed.{Planned, planned}
use Rattle.history.specs.Known.{Known, only_if, seen_at, now_under, now_path, now_link, now_return, now_until, now_clock, change_path}
use Rattle.history.specs.After.{came, after_way, limited_path, after_drop, after_plan, after}
use Rattle.opinion_log.specs.declared.outcomes.Effect.{Effect}
use Rattle.opinion_log.specs.declared.outcomes.Effect.TheVariants.{Nothing, AnnouncesPath, LimitsPath, LeavesReturn, LeavesLink, RenewsLink, EmptiesReturn}
use Rattle.opinion_log.specs.Steps.{way_effect, plan_effect, effect_of}
use Rattle.opinion_log.proofs.Walk.{packet_plan}

-- a record that is seen is the newest
pub seen_used : {A : Type 0} (test : A → Bool) (s : Slot A) (x : A) → only_if test s ≡ used x → s ≡ used x
unfolding only_if
seen_used test empty x h = h
seen_used test (used y) x h = go (test y) refl
  where
    go : (b : Bool) → test y ≡ b → used y ≡ used x
    go true q = sym (then_true _ _ q) ∙ h
    go false q = absurd (used_not_empty (sym (then_false _ _ q) ∙ h))

-- ---- the plan, by its effect
drop_effect : (reason : Reason) (n : Effect) → (Nothing ≡ n → ⊥) → (LimitsPath ≡ n → ⊥) → (is_rate_drop reason then LimitsPath otherwise Nothing) ≡ n → ⊥
drop_effect reason n p q = either (λ (m : Effect). m ≡ n → ⊥) (is_rate_drop reason) (λ _. q) (λ _. p)

path_effect : (a : Arrival) (n : Effect) → (LeavesReturn ≡ n → ⊥) → (LeavesLink ≡ n → ⊥) → (is_data (header a) then LeavesReturn otherwise LeavesLink) ≡ n → ⊥
path_effect a n p q = either (λ (m : Effect). m ≡ n → ⊥) (is_data (header a)) (λ _. p) (λ _. q)

-- only announces announce a path
dropped_not : (a : Arrival) (reason : Reason) → plan_effect a (dropped reason) ≡ AnnouncesPath → ⊥
unfolding plan_effect
dropped_not a reason h = drop_effect reason AnnouncesPath (λ e. cc) (λ e. cc) h

delivered_not : (a : Arrival) → plan_effect a delivered ≡ AnnouncesPath → ⊥
unfolding plan_effect
delivered_not a h = cc

spreads : (a : Arrival) (w : Way) → plan_effect a (follows w) ≡ AnnouncesPath → is_spread w ≡ true
unfolding plan_effect way_effect is_spread
spreads a (everywhere known) h = refl
spreads a (by_path p) h = absurd (path_effect a AnnouncesPath (λ e. cc) (λ e. cc) h)
spreads a (along_link l) h = cc
spreads a (by_return r) h = cc
spreads a (blocked why) h = cc

module _ (v : View) (a : Arrival) (k : Known) where
  -- an announce
  pub announced_path_lem : (todo : Plan) → Planned v a todo → plan_effect a todo ≡ AnnouncesPath → (d : List ℕ)
      → (after_plan v a todo k).path d ≡ (same (destination a) d then used (announced_path v a (v.path (destination a))) otherwise k.path d)
  unfolding plan_effect way_effect after_plan after_way now_path now_under
  announced_path_lem (dropped reason) t h d = absurd (drop_effect reason AnnouncesPath (λ e. cc) (λ e. cc) h)
  announced_path_lem delivered t h d = cc
  announced_path_lem (follows (everywhere known)) t h d =
      ap (λ (s : Slot Path). same (destination a) d then used (announced_path v a s) otherwise k.path d) (sym t.found)
  announced_path_lem (follows (by_path p)) t h d = absurd (path_effect a AnnouncesPath (λ e. cc) (λ e. cc) h)
  announced_path_lem (follows (along_link l)) t h d = cc
  announced_path_lem (follows (by_return r)) t h d = cc
  announced_path_lem (follows (blocked why)) t h d = cc

  -- a rate drop
  pub limited_path_lem : (todo : Plan) → plan_effect a todo ≡ LimitsPath → (d : List ℕ)
      → (after_plan v a todo k).path d ≡ (same (destination a) d then rename_slot (limited_path v a) (k.path (destination a)) otherwise k.path d)
  unfolding plan_effect way_effect after_plan after_drop change_path now_path now_under
  limited_path_lem (dropped reason) h d = go (is_rate_drop reason) refl
    where
      go : (b : Bool) → is_rate_drop reason ≡ b
          → (is_rate_drop reason then change_path (destination a) (limited_path v a) k otherwise k).path d
          ≡ (same (destination a) d then rename_slot (limited_path v a) (k.path (destination a)) otherwise k.path d)
      go true q = ap (λ (x : Known). x.path d) (then_true _ _ q)
      go false q = let e : Nothing ≡ LimitsPath = sym (then_false _ _ q) ∙ h in cc
  limited_path_lem delivered h d = cc
  limited_path_lem (follows (everywhere known)) h d = cc
  limited_path_lem (follows (by_path p)) h d = absurd (path_effect a LimitsPath (λ e. cc) (λ e. cc) h)
  limited_path_lem (follows (along_link l)) h d = cc
  limited_path_lem (follows (by_return r)) h d = cc
  limited_path_lem (follows (blocked why)) h d = cc

  -- data by a path
  pub made_return : (todo : Plan) → Planned v a todo → plan_effect a todo ≡ LeavesReturn
      → (p : Path) × (v.path (destination a) ≡ used p)
      × ((key : List ℕ) → (after_plan v a todo k).return key ≡ (same (return_key a) key then used (return_record a p) otherwise k.return key))
  unfolding plan_effect way_effect after_plan after_way now_return now_under
  made_return (dropped reason) t h = absurd (drop_effect reason LeavesReturn (λ e. cc) (λ e. cc) h)
  made_return delivered t h = cc
  made_return (follows (everywhere known)) t h = cc
  made_return (follows (by_path p)) t h = (p, t.found.0, λ key. go key (is_data (header a)) refl)
    where
      go : (key : List ℕ) (b : Bool) → is_data (header a) ≡ b
          → (is_data (header a) then now_return (return_key a) (used (return_record a p)) k
          otherwise now_link (link_id a.bytes) (used (link_record a p)) k).return key
          ≡ (same (return_key a) key then used (return_record a p) otherwise k.return key)
      go key true q = ap (λ (x : Known). x.return key) (then_true _ _ q)
      go key false q = let e : LeavesLink ≡ LeavesReturn = sym (then_false _ _ q) ∙ h in cc
  made_return (follows (along_link l)) t h = cc
  made_return (follows (by_return r)) t h = cc
  made_return (follows (blocked why)) t h = cc

  -- a link request by a path
  pub made_link : (todo : Plan) → Planned v a todo → plan_effect a todo ≡ LeavesLink
      → (p : Path) × (v.path (destination a) ≡ used p)
      × ((id : List ℕ) → (after_plan v a todo k).link id ≡ (same (link_id a.bytes) id then used (link_record a p) otherwise k.link id))
  unfolding plan_effect way_effect after_plan after_way now_link now_under
  made_link (dropped reason) t h = absurd (drop_effect reason LeavesLink (λ e. cc) (λ e. cc) h)
  made_link delivered t h = cc
  made_link (follows (everywhere known)) t h = cc
  made_link (follows (by_path p)) t h = (p, t.found.0, λ id. go id (is_data (header a)) refl)
    where
      go : (id : List ℕ) (b : Bool) → is_data (header a) ≡ b
          → (is_data (header a) then now_return (return_key a) (used (return_record a p)) k
          otherwise now_link (link_id a.bytes) (used (link_record a p)) k).link id
          ≡ (same (link_id a.bytes) id then used (link_record a p) otherwise k.link id)
      go id true q = let e : LeavesReturn ≡ LeavesLink = sym (then_true _ _ q) ∙ h in cc
      go id false q = ap (λ (x : Known). x.link id) (then_false _ _ q)
  made_link (follows (along_link l)) t h = cc
  made_link (follows (by_return r)) t h = cc
  made_link (follows (blocked why)) t h = cc

  -- a packet carried along a link
  pub renewed_link_lem : (todo : Plan) → Planned v a todo → plan_effect a todo ≡ RenewsLink
      → (l : Link) × (v.link (destination a) ≡ used l)
      × ((id : List ℕ) → (after_plan v a todo k).link id ≡ (same (destination a) id then used (renewed_link a l) otherwise k.link id))
  unfolding plan_effect way_effect after_plan after_way now_link now_under
  renewed_link_lem (dropped reason) t h = absurd (drop_effect reason RenewsLink (λ e. cc) (λ e. cc) h)
  renewed_link_lem delivered t h = cc
  renewed_link_lem (follows (everywhere known)) t h = cc
  renewed_link_lem (follows (by_path p)) t h = absurd (path_effect a RenewsLink (λ e. cc) (λ e. cc) h)
  renewed_link_lem (follows (along_link l)) t h = (l, t.found, λ id. refl)
  renewed_link_lem (follows (by_return r)) t h = cc
  renewed_link_lem (follows (blocked why)) t h = cc

  -- a proof that goes back
  pub emptied_return : (todo : Plan) → plan_effect a todo ≡ EmptiesReturn → (key : List ℕ)
      → (after_plan v a todo k).return key ≡ (same (destination a) key then empty otherwise k.return key)
  unfolding plan_effect way_effect after_plan after_way now_return now_under
  emptied_return (dropped reason) h key = absurd (drop_effect reason EmptiesReturn (λ e. cc) (λ e. cc) h)
  emptied_return delivered h key = cc
  emptied_return (follows (everywhere known)) h key = cc
  emptied_return (follows (by_path p)) h key = absurd (path_effect a EmptiesReturn (λ e. cc) (λ e. cc) h)
  emptied_return (follows (along_link l)) h key = cc
  emptied_return (follows (by_return r)) h key = refl
  emptied_return (follows (blocked why)) h key = cc

  -- ---- what other effects leave
  pub path_left : (todo : Plan) → (plan_effect a todo ≡ AnnouncesPath → ⊥) → (plan_effect a todo ≡ LimitsPath → ⊥) → (after_plan v a todo k).path ≡ k.path
  unfolding plan_effect way_effect after_plan after_drop after_way now_link now_return
  path_left (dropped reason) p q = go (is_rate_drop reason) refl
    where
      go : (b : Bool) → is_rate_drop reason ≡ b → (is_rate_drop reason then change_path (destination a) (limited_path v a) k otherwise k).path ≡ k.path
      go true e = absurd (q (then_true _ _ e))
      go false e = ap (λ (x : Known). x.path) (then_false _ _ e)
  path_left delivered p q = refl
  path_left (follows (everywhere known)) p q = absurd (p refl)
  path_left (follows (by_path r)) p q = either (λ (x : Known). x.path ≡ k.path) _ (λ _. refl) (λ _. refl)
  path_left (follows (along_link l)) p q = refl
  path_left (follows (by_return r)) p q = refl
  path_left (follows (blocked why)) p q = refl

  pub link_left : (todo : Plan) → (plan_effect a todo ≡ LeavesLink → ⊥) → (plan_effect a todo ≡ RenewsLink → ⊥) → (after_plan v a todo k).link ≡ k.link
  unfolding plan_effect way_effect after_plan after_drop after_way change_path now_path now_return
  link_left (dropped reason) p q = either (λ (x : Known). x.link ≡ k.link) _ (λ _. refl) (λ _. refl)
  link_left delivered p q = refl
  link_left (follows (everywhere known)) p q = refl
  link_left (follows (by_path r)) p q = go (is_data (header a)) refl
    where
      go : (b : Bool) → is_data (header a) ≡ b
          → (is_data (header a) then now_return (return_key a) (used (return_record a r)) k otherwise now_link (link_id a.bytes) (used (link_record a r)) k).link
          ≡ k.link
      go true e = ap (λ (x : Known). x.link) (then_true _ _ e)
      go false e = absurd (p (then_false _ _ e))
  link_left (follows (along_link l)) p q = absurd (q refl)
  link_left (follows (by_return r)) p q = refl
  link_left (follows (blocked why)) p q = refl

  pub return_left : (todo : Plan) → (plan_effect a todo ≡ LeavesReturn → ⊥) → (plan_effect a todo ≡ EmptiesReturn → ⊥) → (after_plan v a todo k).return ≡ k.return
  unfolding plan_effect way_effect after_plan after_drop after_way change_path now_path now_link
  return_left (dropped reason) p q = either (λ (x : Known). x.return ≡ k.return) _ (λ _. refl) (λ _. refl)
  return_left delivered p q = refl
  return_left (follows (everywhere known)) p q = refl
  return_left (follows (by_path r)) p q = go (is_data (header a)) refl
    where
      go : (b : Bool) → is_data (header a) ≡ b
          → (is_data (header a) then now_return (return_key a) (used (return_record a r)) k otherwise now_link (link_id a.bytes) (used (link_record a r)) k).return
          ≡ k.return
      go true e = absurd (p (then_true _ _ e))
      go false e = ap (λ (x : Known). x.return) (then_false _ _ e)
  return_left (follows (along_link l)) p q = refl
  return_left (follows (by_return r)) p q = absurd (q refl)
  return_left (follows (blocked why)) p q = refl

-- an announce whose path is announced has a blob
pub announce_body_lem : (v : View) (a : Arrival) → plan_effect a (plan v a) ≡ AnnouncesPath → blob_end ≤ length (body a)
announce_body_lem v a h = go (plan v a) refl h
  where
    go : (todo : Plan) → plan v a ≡ todo → plan_effect a todo ≡ AnnouncesPath → blob_end ≤ length (body a)
    go (dropped reason) e q = absurd (dropped_not a reason q)
    go delivered e q = absurd (delivered_not a q)
    go (follows w) e q = let (way, p) = passed v a w e in announce_long a p.form (spread_announce v a (ap is_spread way ∙ spreads a w q))

-- ---- a packet
module _ (a : Arrival) (k : Known) where
  abbrev v : View
  v = seen_at a.clock k

  path_plan : (after (came a) k).path ≡ (after_plan v a (plan v a) k).path
  unfolding now_until now_clock
  path_plan = packet_plan (λ (x : Known). x.path) (λ _ _ _. refl) (λ _ _. refl) k a

  link_plan : (after (came a) k).link ≡ (after_plan v a (plan v a) k).link
  unfolding now_until now_clock
  link_plan = packet_plan (λ (x : Known). x.link) (λ _ _ _. refl) (λ _ _. refl) k a

  return_plan : (after (came a) k).return ≡ (after_plan v a (plan v a) k).return
  unfolding now_until now_clock
  return_plan = packet_plan (λ (x : Known). x.return) (λ _ _ _. refl) (λ _ _. refl) k a

  -- ---- paths
  pub path_announced : effect_of (came a) k ≡ AnnouncesPath → (d : List ℕ)
      → (after (came a) k).path d ≡ (same (destination a) d then used (announced_path v a (v.path (destination a))) otherwise k.path d)
  unfolding effect_of
  path_announced h d = ap (λ (f : List ℕ → Slot Path). f d) path_plan ∙ announced_path_lem v a k _ (planned v a) h d

  pub path_limited : effect_of (came a) k ≡ LimitsPath → (d : List ℕ)
      → (after (came a) k).path d ≡ (same (destination a) d then rename_slot (limited_path v a) (k.path (destination a)) otherwise k.path d)
  unfolding effect_of
  path_limited h d = ap (λ (f : List ℕ → Slot Path). f d) path_plan ∙ limited_path_lem v a k _ h d

  pub path_stays : (effect_of (came a) k ≡ AnnouncesPath → ⊥) → (effect_of (came a) k ≡ LimitsPath → ⊥) → (after (came a) k).path ≡ k.path
  unfolding effect_of
  path_stays p q = path_plan ∙ path_left v a k _ p q

  -- ---- links
  pub link_asked : effect_of (came a) k ≡ LeavesLink
      → (p : Path) × (v.path (destination a) ≡ used p)
      × ((id : List ℕ) → (after (came a) k).link id ≡ (same (link_id a.bytes) id then used (link_record a p) otherwise k.link id))
  unfolding effect_of
  link_asked h =
      let (p, found, made) = made_link v a k _ (planned v a) h in
      (p, found, λ id. ap (λ (f : List ℕ → Slot Link). f id) link_plan ∙ made id)

  pub link_carried : effect_of (came a) k ≡ RenewsLink
      → (l : Link) × (v.link (destination a) ≡ used l)
      × ((id : List ℕ) → (after (came a) k).link id ≡ (same (destination a) id then used (renewed_link a l) otherwise k.link id))
  unfolding effect_of
  link_carried h =
      let (l, found, made) = renewed_link_lem v a k _ (planned v a) h in
      (l, found, λ id. ap (λ (f : List ℕ → Slot Link). f id) link_plan ∙ made id)

  pub link_stays : (effect_of (came a) k ≡ LeavesLink → ⊥) → (effect_of (came a) k ≡ RenewsLink → ⊥) → (after (came a) k).link ≡ k.link
  unfolding effect_of
  link_stays p q = link_plan ∙ link_left v a k _ p q

  -- ---- return records
  pub return_made : effect_of (came a) k ≡ LeavesReturn
      → (p : Path) × (v.path (destination a) ≡ used p)
      × ((key : List ℕ) → (after (came a) k).return key ≡ (same (return_key a) key then used (return_record a p) otherwise k.return key))
  unfolding effect_of
  return_made h =
      let (p, found, made) = made_return v a k _ (planned v a) h in
      (p, found, λ key. ap (λ (f : List ℕ → Slot Return). f key) return_plan ∙ made key)

  pub return_emptied : effect_of (came a) k ≡ EmptiesReturn → (key : List ℕ)
      → (after (came a) k).return key ≡ (same (destination a) key then empty otherwise k.return key)
  unfolding effect_of
  return_emptied h key = ap (λ (f : List ℕ → Slot Return). f key) return_plan ∙ emptied_return v a k _ h key

  pub return_stays : (effect_of (came a) k ≡ LeavesReturn → ⊥) → (effect_of (came a) k ≡ EmptiesReturn → ⊥) → (after (came a) k).return ≡ k.return
  unfolding effect_of
  return_stays p q = return_plan ∙ return_left v a k _ p q

  -- the blob of an announced path
  pub announced_body : effect_of (came a) k ≡ AnnouncesPath → blob_end ≤ length (body a)
  unfolding effect_of
  announced_body h = announce_body_lem v a h

-- ---- what a packet leaves as it was
module _ (a : Arrival) (k : Known) where
  pub link_others : (id : List ℕ) → (effect_of (came a) k ≡ LeavesLink → same (link_id a.bytes) id ≡ false)
      → (effect_of (came a) k ≡ RenewsLink → same (destination a) id ≡ false) → (after (came a) k).link id ≡ k.link id
  link_others id p q = go (effect_of (came a) k) refl
    where
      stays : (effect_of (came a) k ≡ LeavesLink → ⊥) → (effect_of (came a) k ≡ RenewsLink → ⊥) → (after (came a) k).link id ≡ k.link id
      stays x y = ap (λ (f : List ℕ → Slot Link). f id) (link_stays a k x y)

      go : (e : Effect) → effect_of (came a) k ≡ e → (after (came a) k).link id ≡ k.link id
      go LeavesLink h = let (r, found, so) = link_asked a k h in so id ∙ then_false _ _ (p h)
      go RenewsLink h = let (l, found, so) = link_carried a k h in so id ∙ then_false _ _ (q h)
      go Nothing h = stays (λ e. cc) (λ e. cc)
      go AnnouncesPath h = stays (λ e. cc) (λ e. cc)
      go LimitsPath h = stays (λ e. cc) (λ e. cc)
      go LeavesReturn h = stays (λ e. cc) (λ e. cc)
      go EmptiesReturn h = stays (λ e. cc) (λ e. cc)

  pub return_others : (key : List ℕ) → (effect_of (came a) k ≡ LeavesReturn → same (return_key a) key ≡ false)
      → (effect_of (came a) k ≡ EmptiesReturn → same (destination a) key ≡ false) → (after (came a) k).return key ≡ k.return key
  return_others key p q = go (effect_of (came a) k) refl
    where
      stays : (effect_of (came a) k ≡ LeavesReturn → ⊥) → (effect_of (came a) k ≡ EmptiesReturn → ⊥) → (after (came a) k).return key ≡ k.return key
      stays x y = ap (λ (f : List ℕ → Slot Return). f key) (return_stays a k x y)

      go : (e : Effect) → effect_of (came a) k ≡ e → (after (came a) k).return key ≡ k.return key
      go LeavesReturn h = let (r, found, so) = return_made a k h in so key ∙ then_false _ _ (p h)
      go EmptiesReturn h = return_emptied a k h key ∙ then_false _ _ (q h)
      go Nothing h = stays (λ e. cc) (λ e. cc)
      go AnnouncesPath h = stays (λ e. cc) (λ e. cc)
      go LimitsPath h = stays (λ e. cc) (λ e. cc)
      go LeavesLink h = stays (λ e. cc) (λ e. cc)
      go RenewsLink h = stays (λ e. cc) (λ e. cc)
