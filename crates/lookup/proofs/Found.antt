-- What the place that a search gave says of the view, for a caller that has the place in hand.
use Prim.Native.Nat.{ℕ, ◌≤◌, ◌<◌}
use native.Mathlib.Omega.{arith}
use mathlib.Core.Bool.{Bool, true, false, false≢true}
use mathlib.Core.List.{List}
use mathlib.Core.Path.{◌≡◌, refl, sym, ap, subst, ◌∙◌}
use lib.Dec.{eqb, ltb}
use lib.ListN.{get_or, get_or-eq_default}
use borrow.Author.Tests.{lt-ltb, le-ltb, ltb-true, ltb-false}
use Rattle.std.specs.Prelude.{Some, None, is_some}
use Rattle.octets.specs.Choice.{◌then◌otherwise◌}
use Rattle.octets.proofs.Index.{all_at, first_holds}
use Rattle.numbers.specs.Numbers.{path_count, link_count, return_count}
use Rattle.rules.specs.Relay.{empty, used, Relay, holds, lowest}
use Rattle.rules.specs.View.{is_live_path, is_live_link, is_live_return, path_place, link_place, return_place, free_path, free_link, view_at}
use Rattle.rules.specs.Refusals.{path_ok}
use Rattle.tables.specs.Places.{paths_at, path_width, links_at, link_width, returns_at, return_width}
use Rattle.tables.specs.Records.{slot_of, path_of, link_of, return_of, path_bytes_ok}
use Rattle.tables.specs.Layout.{record_at, records, records_ok, relay_of, well_formed}
use Rattle.tables.proofs.Seen.{record_seen, records_length}
use Rattle.tables.proofs.Tests.{path_kept}
use Rattle.tables.proofs.Whole.{formed}
use Rattle.lookup.specs.Search.{found}

-- ---- what the search answered
pub found_some : {n place p : ℕ} → Some p ≡ found n place → (p ≡ place) × (p < n)
unfolding found ◌then◌otherwise◌
found_some {n} {place} {p} e = go (ltb place n) refl e
  where
    go : (b : Bool) → ltb place n ≡ b → Some p ≡ (b then Some place otherwise None) → (p ≡ place) × (p < n)
    go true q h = let same : p ≡ place = grind arith in (same, omega (arith, same, ltb-true place n q))
    go false q h = grind arith

pub found_below : {n p : ℕ} (place : ℕ) → Some p ≡ found n place → p < n
found_below place e = (found_some e).1

pub found_none : {n place : ℕ} → None ≡ found n place → n ≤ place
unfolding found ◌then◌otherwise◌
found_none {n} {place} e = go (ltb place n) refl e
  where
    go : (b : Bool) → ltb place n ≡ b → None ≡ (b then Some place otherwise None) → n ≤ place
    go true q h = grind arith
    go false q h = ltb-false place n q

pub some_found : {n place k : ℕ} → place < n → place ≡ k → Some place ≡ found n k
unfolding found ◌then◌otherwise◌
some_found {n} {place} l e = rw (lt-ltb place n l) refl ∙ ap (found n) e

pub none_found : {n k : ℕ} → n ≤ k → None ≡ found n k
unfolding found ◌then◌otherwise◌
none_found {n} {k} l = rw (le-ltb k n l) refl

pub found_is : (n place : ℕ) → is_some (found n place) ≡ ltb place n
unfolding found ◌then◌otherwise◌
found_is n place = go (ltb place n)
  where
    go : (b : Bool) → is_some (b then Some place otherwise None) ≡ b
    go true = refl
    go false = refl

pub ruleset answers = (found_some, found_none, found_is)

-- ---- any table
module _ {A : Type 0} (test : A → Bool) (read : List ℕ → A) where
  -- a slot that passes a test is used
  marked : (b : List ℕ) → holds test (slot_of read b) ≡ true → eqb (get_or b 0 0) 0 ≡ false
  unfolding holds slot_of ◌then◌otherwise◌
  marked b h = go (eqb (get_or b 0 0) 0) refl
    where
      go : (m : Bool) → eqb (get_or b 0 0) 0 ≡ m → eqb (get_or b 0 0) 0 ≡ false
      go true q = absurd (false≢true (rw q at h))
      go false q = q

  module _ (at width n : ℕ) (t : List ℕ) (i : ℕ) (e : i ≡ lowest test n (records (slot_of read) at width n t)) where
    found_marked : i < n → eqb (get_or (record_at at width t i) 0 0) 0 ≡ false
    unfolding lowest
    found_marked l =
        let there : holds test (get_or (records (slot_of read) at width n t) i empty) ≡ true =
        subst (λ (k : ℕ). holds test (get_or (records (slot_of read) at width n t) k empty) ≡ true) (sym e)
        (first_holds (λ k. holds test (get_or (records (slot_of read) at width n t) k empty)) n (subst (λ (k : ℕ). k < n) e l)) in
        marked (record_at at width t i) (ap (holds test) (sym (record_seen (slot_of read) at width n t i empty l)) ∙ there)

    there : i < n → get_or (records (slot_of read) at width n t) i empty ≡ used (read (record_at at width t i))
    unfolding slot_of ◌then◌otherwise◌
    there l = record_seen (slot_of read) at width n t i empty l ∙ rw (found_marked l)

    missing : n ≤ i → get_or (records (slot_of read) at width n t) i empty ≡ empty
    missing l =
        get_or-eq_default (records (slot_of read) at width n t) empty {n = i}
        (subst (λ (k : ℕ). k ≤ i) (sym (records_length (slot_of read) at width n t)) l)

    -- row 7's clauses on a used record
    found_ok : (ok : List ℕ → Bool) (rule : A → Bool) → ((b : List ℕ) → eqb (get_or b 0 0) 0 ≡ false → ok b ≡ true → rule (read b) ≡ true)
        → records_ok ok at width n t ≡ true → i < n → rule (read (record_at at width t i)) ≡ true
    unfolding records_ok
    found_ok ok rule kept h l = kept (record_at at width t i) (found_marked l) (all_at (λ k. ok (record_at at width t k)) n i h l)

-- ---- paths, links and return records
module _ (t : List ℕ) (clock : ℕ) where
  module _ (destination : List ℕ) (i : ℕ) (e : i ≡ path_place clock (relay_of t) destination) where
    pub path_found : i < path_count → (view_at clock (relay_of t)).path destination ≡ used (path_of (record_at paths_at path_width t i))
    unfolding view_at path_place relay_of slot_of path_of
    path_found l =
        ap (λ (k : ℕ). get_or (relay_of t).paths k empty) (sym e)
        ∙ there (is_live_path clock destination) path_of paths_at path_width path_count t i e l

    pub path_missing : path_count ≤ i → (view_at clock (relay_of t)).path destination ≡ empty
    unfolding view_at path_place relay_of slot_of path_of
    path_missing l =
        ap (λ (k : ℕ). get_or (relay_of t).paths k empty) (sym e)
        ∙ missing (is_live_path clock destination) path_of paths_at path_width path_count t i e l

    module _ (h : well_formed t ≡ true) (l : i < path_count) where
      pub path_ok_lem : path_ok (path_of (record_at paths_at path_width t i)) ≡ true
      unfolding path_place relay_of slot_of path_of
      path_ok_lem =
          found_ok (is_live_path clock destination) path_of paths_at path_width path_count t i e path_bytes_ok path_ok path_kept (formed t h).paths l

  module _ (id : List ℕ) (i : ℕ) (e : i ≡ link_place clock (relay_of t) id) where
    pub link_found : i < link_count → (view_at clock (relay_of t)).link id ≡ used (link_of (record_at links_at link_width t i))
    unfolding view_at link_place relay_of slot_of link_of
    link_found l =
        ap (λ (k : ℕ). get_or (relay_of t).links k empty) (sym e)
        ∙ there (is_live_link clock id) link_of links_at link_width link_count t i e l

    pub link_missing : link_count ≤ i → (view_at clock (relay_of t)).link id ≡ empty
    unfolding view_at link_place relay_of slot_of link_of
    link_missing l =
        ap (λ (k : ℕ). get_or (relay_of t).links k empty) (sym e)
        ∙ missing (is_live_link clock id) link_of links_at link_width link_count t i e l

  module _ (key : List ℕ) (i : ℕ) (e : i ≡ return_place clock (relay_of t) key) where
    pub return_found : i < return_count → (view_at clock (relay_of t)).return key ≡ used (return_of (record_at returns_at return_width t i))
    unfolding view_at return_place relay_of slot_of return_of
    return_found l =
        ap (λ (k : ℕ). get_or (relay_of t).returns.slots k empty) (sym e)
        ∙ there (is_live_return clock key) return_of returns_at return_width return_count t i e l

    pub return_missing : return_count ≤ i → (view_at clock (relay_of t)).return key ≡ empty
    unfolding view_at return_place relay_of slot_of return_of
    return_missing l =
        ap (λ (k : ℕ). get_or (relay_of t).returns.slots k empty) (sym e)
        ∙ missing (is_live_return clock key) return_of returns_at return_width return_count t i e l

-- ---- what is only there or not
module _ (clock : ℕ) (r : Relay) (i : ℕ) where
  pub path_room : i ≡ free_path clock r → (view_at clock r).room_for_path ≡ ltb i path_count
  unfolding view_at
  path_room e = ap (λ (k : ℕ). ltb k path_count) (sym e)

  pub link_room : i ≡ free_link clock r → (view_at clock r).room_for_link ≡ ltb i link_count
  unfolding view_at
  link_room e = ap (λ (k : ℕ). ltb k link_count) (sym e)
