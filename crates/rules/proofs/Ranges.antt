-- Each record that a call makes of records that keep row 7 keeps it too: its ports, counts and times stay in their ranges.
use Prim.Native.Nat.{ℕ, ◌+◌, ◌%◌, ◌≤◌, ◌<◌}
use native.Mathlib.Nat.{mod-lt}
use native.Mathlib.Omega.{arith}
use mathlib.Core.Bool.{Bool, true, false}
use mathlib.Core.List.{List}
use mathlib.Core.Path.{◌≡◌, refl, ap, ◌∙◌}
use lib.Dec.{ltb, lit≤}
use borrow.Author.Tests.{lt-ltb, ltb-true, le-leb, leb-true, leb-false}
use Rattle.octets.proofs.Index.{and_left, and_right, and_both, all_at}
use Rattle.octets.proofs.Choice.{then_true}
use Rattle.numbers.specs.Numbers.{port_count, blob_limit, clock_limit, time_limit, target_limit, grace_limit, penalty_limit, violation_limit, blocked_limit, path_lifetime, hops_limit, boundary_lifetime, unproved_lifetime}
use Rattle.rules.specs.Relay.{Slot, empty, used, Path, Return, Ring, with_path_rate, holds}
use Rattle.rules.specs.View.{View}
use Rattle.rules.specs.Renumbering.{image, one_to_one, rename_path, rename_link, rename_return, rename_slot}
use Rattle.rules.specs.Refusals.{time_ok, rate_settings_ok, rate_entry_ok, path_ok, link_ok, return_ok, slot_ok, table_ok}
use Rattle.rules.specs.Arrival.{Arrival, hops}
use Rattle.rules.specs.Rate.{one_more, violated, rated, entry_accepted, entry_revived, entry_dropped}
use Rattle.rules.specs.Tests.{too_many_hops, revives}
use Rattle.rules.specs.Writes.{put_next, noted_slot, announced_blobs, announced_rate, announced_path, return_record, emptied_if, link_record, renewed_link}
use Rattle.rules.specs.declared.Link.{Link}
use Rattle.rules.specs.declared.RateSettings.{RateSettings}
use Rattle.rules.specs.declared.RateEntry.{RateEntry}
use Rattle.rules.specs.declared.Rated.{Rated}
use Rattle.notes.specs.declared.Note.{Note}
use Rattle.rules.proofs.Choices.{either}
use Rattle.rules.proofs.Tables.{table_set}
use Rattle.rules.proofs.BlobLaws.{Counted, one_counted, store_counted}

-- ---- slots and rings
-- a record that is put into a ring's next place, and the place after it
module _ {A : Type 0} (ok : A → Bool) (n : ℕ) (some : 0 < n) (s : Slot A) (ring : Ring A) where
  pub put_next_lem : table_ok n (slot_ok ok) ring.slots ≡ true → slot_ok ok s ≡ true → table_ok n (slot_ok ok) (put_next n s ring).slots ≡ true
  unfolding put_next
  put_next_lem h k = table_set (slot_ok ok) n ring.slots h ring.next s k

  pub place_next : ltb (put_next n s ring).next n ≡ true
  unfolding put_next
  place_next = lt-ltb ((ring.next + 1) % n) n (mod-lt (ring.next + 1) some)

pub emptied_ok : {A : Type 0} (ok test : A → Bool) (s : Slot A) → slot_ok ok s ≡ true → slot_ok ok (emptied_if test s) ≡ true
unfolding emptied_if slot_ok
emptied_ok ok test s h = either (λ (s : Slot _). slot_ok ok s ≡ true) (holds test s) (λ _. refl) (λ _. h)

pub slot_renamed : {A : Type 0} (rule : A → Bool) (rename : A → A) → ((x : A) → rule x ≡ true → rule (rename x) ≡ true)
    → (s : Slot A) → slot_ok rule s ≡ true → slot_ok rule (rename_slot rename s) ≡ true
unfolding slot_ok rename_slot
slot_renamed rule rename keeps empty h = refl
slot_renamed rule rename keeps (used x) h = keeps x h

-- ---- the rate rule keeps its bounds
-- violations stay a byte, and blocked-until at most 2^40 + 691,199
abbrev Bounded : Rated → Type 0
Bounded x = (x.violations < 256) × (x.blocked_until ≤ blocked_limit)

one_more_small : (n : ℕ) → one_more n < 256
unfolding one_more
one_more_small n = either (λ (m : ℕ). m < 256) (ltb n violation_limit) (λ e. let l = ltb-true n violation_limit e in omega (arith, l)) (λ _. lit≤ tt)

-- the bounds by name
pub record SettingsWithin (s : RateSettings) : Type 0 where
  pub target : s.target ≤ target_limit
  pub grace : s.grace ≤ grace_limit
  pub penalty : s.penalty ≤ penalty_limit

pub settings_within : (s : RateSettings) → rate_settings_ok s ≡ true → SettingsWithin s
unfolding rate_settings_ok
settings_within s h =
    let rest = and_right _ _ h in
    record { target = leb-true _ _ (and_left _ _ h); grace = leb-true _ _ (and_left _ _ rest); penalty = leb-true _ _ (and_right _ _ rest) }

pub record EntryWithin (e : RateEntry) : Type 0 where
  pub last : e.last < clock_limit
  pub violations : e.violations < 256
  pub blocked : e.blocked_until ≤ blocked_limit

pub entry_within : (e : RateEntry) → rate_entry_ok e ≡ true → EntryWithin e
unfolding rate_entry_ok
entry_within e h =
    let rest = and_right _ _ h in
    record { last = ltb-true _ _ (and_left _ _ h); violations = ltb-true _ _ (and_left _ _ rest); blocked = leb-true _ _ (and_right _ _ rest) }

module _ (s : RateSettings) (e : RateEntry) (clock : ℕ) (sound : rate_settings_ok s ≡ true) (fine : rate_entry_ok e ≡ true) where
  within : EntryWithin e
  within = entry_within e fine

  sum_small : e.last + s.target + s.penalty ≤ blocked_limit
  sum_small = let w = settings_within s sound in omega (arith, (entry_within e fine).last, w.target, w.penalty)

  rated_small : Bounded (rated s clock e)
  unfolding rated violated
  rated_small =
      either Bounded (ltb clock e.blocked_until) (λ _. (within.violations, within.blocked))
      (λ _. either Bounded (ltb clock (e.last + s.target))
      (λ _. either Bounded (ltb s.grace (one_more e.violations))
      (λ _. (one_more_small e.violations, sum_small))
      (λ _. (one_more_small e.violations, within.blocked)))
      (λ _. (let l = within.violations in omega (arith, l), within.blocked)))

  pub accepted_rate_ok : clock < clock_limit → rate_entry_ok (entry_accepted s clock e) ≡ true
  unfolding rate_entry_ok entry_accepted
  accepted_rate_ok l = and_both (lt-ltb _ _ l) (and_both (lt-ltb _ _ rated_small.0) (le-leb _ _ rated_small.1))

  pub dropped_rate_ok : rate_entry_ok (entry_dropped s clock e) ≡ true
  unfolding rate_entry_ok entry_dropped
  dropped_rate_ok = and_both (lt-ltb _ _ within.last) (and_both (lt-ltb _ _ rated_small.0) (le-leb _ _ rated_small.1))

-- ---- what an accepted packet makes
lifetime_small : (mode : ℕ) → path_lifetime mode ≤ boundary_lifetime
unfolding path_lifetime
lifetime_small mode =
    either (λ (n : ℕ). n ≤ boundary_lifetime) _ (λ _. lit≤ tt)
    (λ _. either (λ (n : ℕ). n ≤ boundary_lifetime) _ (λ _. lit≤ tt) (λ _. lit≤ tt))

module _ (p : Path) (h : path_ok p ≡ true) where
  path_port : ltb p.port port_count ≡ true
  unfolding path_ok
  path_port = and_left _ _ h

  path_hops : p.hops < 256
  unfolding path_ok
  path_hops = ltb-true _ _ (and_left _ _ (and_right _ _ h))

  pub path_counted : Counted blob_limit p.blobs.count
  unfolding path_ok
  path_counted =
      let rest = and_right _ _ (and_right _ _ h) in
      record { some = leb-true _ _ (and_left _ _ rest); most = leb-true _ _ (and_left _ _ (and_right _ _ rest)) }

  pub path_time : p.expiry ≤ time_limit
  unfolding path_ok time_ok
  path_time = leb-true _ _ (and_left _ _ (and_right _ _ (and_right _ _ (and_right _ _ (and_right _ _ h)))))

  pub path_rate : rate_entry_ok p.rate ≡ true
  unfolding path_ok
  path_rate = and_right _ _ (and_right _ _ (and_right _ _ (and_right _ _ (and_right _ _ h))))

  -- a rate drop leaves the other fields
  pub limited_ok : (rate : RateEntry) → rate_entry_ok rate ≡ true → path_ok (with_path_rate rate p) ≡ true
  unfolding path_ok
  limited_ok rate k =
      let h1 = and_right _ _ h in
      let h2 = and_right _ _ h1 in
      let h3 = and_right _ _ h2 in
      let h4 = and_right _ _ h3 in
      and_both (and_left _ _ h) (and_both (and_left _ _ h1) (and_both (and_left _ _ h2) (and_both (and_left _ _ h3) (and_both (and_left _ _ h4) k))))

-- a mark leaves all of them
pub noted_ok : (note : Note) (s : Slot Path) → slot_ok path_ok s ≡ true → slot_ok path_ok (noted_slot note s) ≡ true
unfolding slot_ok path_ok noted_slot
noted_ok note empty h = refl
noted_ok note (used p) h = h

announced_counted : (a : Arrival) (known : Slot Path) → slot_ok path_ok known ≡ true → Counted blob_limit (announced_blobs a known).count
unfolding announced_blobs slot_ok
announced_counted a empty h = one_counted blob_limit (lit≤ tt) _
announced_counted a (used p) h = store_counted blob_limit (lit≤ tt) _ p.blobs (path_counted p h)

module _ (a : Arrival) (port : a.port < port_count) (clock : a.clock < clock_limit) where
  arrival_port : ltb a.port port_count ≡ true
  arrival_port = lt-ltb _ _ port

  pub time_small : (lifetime : ℕ) → lifetime ≤ boundary_lifetime → time_ok (a.clock + lifetime) ≡ true
  unfolding time_ok
  time_small lifetime l = le-leb (a.clock + lifetime) time_limit (omega arith)

  announced_rate_lem : (v : View) (known : Slot Path) → rate_settings_ok v.rate ≡ true → slot_ok path_ok known ≡ true → rate_entry_ok (announced_rate v a known) ≡ true
  unfolding announced_rate entry_revived slot_ok rate_entry_ok
  announced_rate_lem v empty sound h = and_both (lt-ltb a.clock clock_limit clock) (and_both refl refl)
  announced_rate_lem v (used p) sound h =
      either (λ (e : RateEntry). rate_entry_ok e ≡ true) (revives a p)
      (λ _. and_both (lt-ltb a.clock clock_limit clock) (and_right _ _ (path_rate p h)))
      (λ _. accepted_rate_ok v.rate p.rate a.clock sound (path_rate p h) clock)

  pub announced_ok : (v : View) (known : Slot Path) → rate_settings_ok v.rate ≡ true → too_many_hops (hops a) ≡ false → slot_ok path_ok known ≡ true
      → path_ok (announced_path v a known) ≡ true
  unfolding path_ok announced_path too_many_hops
  announced_ok v known sound few h =
      let l : hops a < hops_limit = leb-false hops_limit (hops a) few in
      let c : Counted blob_limit (announced_blobs a known).count = announced_counted a known h in
      and_both arrival_port
      (and_both (lt-ltb (hops a) 256 (omega arith))
      (and_both (le-leb _ _ c.some)
      (and_both (le-leb _ _ c.most)
      (and_both (time_small _ (lifetime_small _)) (announced_rate_lem v known sound h)))))

  pub return_ok_lem : (p : Path) → path_ok p ≡ true → return_ok (return_record a p) ≡ true
  unfolding return_ok return_record
  return_ok_lem p h = and_both arrival_port (and_both (path_port p h) (time_small _ (lit≤ tt)))

  pub link_ok_lem : (p : Path) → path_ok p ≡ true → link_ok (link_record a p) ≡ true
  unfolding link_ok link_record
  link_ok_lem p h =
      let l : p.hops < 256 = path_hops p h in
      and_both arrival_port (and_both (path_port p h) (time_small (unproved_lifetime p.hops) (omega arith)))

  pub renewed_ok : (l : Link) → link_ok l ≡ true → link_ok (renewed_link a l) ≡ true
  unfolding link_ok renewed_link
  renewed_ok l h = and_both (and_left _ _ h) (and_both (and_left _ _ (and_right _ _ h)) (time_small _ (lit≤ tt)))

-- ---- what a renumbering makes of a record
module _ (m : List ℕ) (ok : one_to_one m ≡ true) where
  image_small : (port : ℕ) → ltb port port_count ≡ true → ltb (image m port) port_count ≡ true
  unfolding image one_to_one
  image_small port h =
      ap (λ (n : ℕ). ltb n port_count) (then_true _ _ h)
      ∙ and_left _ _ (all_at _ port_count port (and_right _ _ ok) (ltb-true _ _ h))

  pub path_renamed : (p : Path) → path_ok p ≡ true → path_ok (rename_path m p) ≡ true
  unfolding path_ok rename_path
  path_renamed p h = and_both (image_small _ (and_left _ _ h)) (and_right _ _ h)

  pub link_renamed : (l : Link) → link_ok l ≡ true → link_ok (rename_link m l) ≡ true
  unfolding link_ok rename_link
  link_renamed l h =
      let rest = and_right _ _ h in
      and_both (image_small _ (and_left _ _ h)) (and_both (image_small _ (and_left _ _ rest)) (and_right _ _ rest))

  pub return_renamed : (t : Return) → return_ok t ≡ true → return_ok (rename_return m t) ≡ true
  unfolding return_ok rename_return
  return_renamed t h =
      let rest = and_right _ _ h in
      and_both (image_small _ (and_left _ _ h)) (and_both (image_small _ (and_left _ _ rest)) (and_right _ _ rest))
