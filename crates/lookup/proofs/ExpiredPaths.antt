-- The latest of a destination's expired paths.
use Prim.Native.Nat.{ℕ, zero, suc, ◌+◌, ◌*◌, ◌≤◌, ◌<◌, max}
use native.Mathlib.Omega.{arith}
use mathlib.Core.Bool.{Bool, true, false, not}
use mathlib.Core.List.{List, [], ◌∷◌}
use mathlib.Core.Path.{◌≡◌, refl, sym, ap, subst, ◌∙◌}
use lib.Dec.{eqb}
use lib.ListN.{length, get_or}
use borrow.Author.Tests.{lt-ltb, le-ltb}
use Rattle.std.specs.Prelude.{Some, None}
use Rattle.std.specs.Simd.{first_chunks}
use Rattle.std.specs.List.{filter_map, cons_option, fold, reduce}
use Rattle.octets.specs.Index.{◌and◌}
use Rattle.octets.specs.Choice.{◌then◌otherwise◌, same}
use Rattle.octets.specs.Part.{part}
use Rattle.octets.specs.BigEndian.{number}
use Rattle.octets.proofs.Part.{part_part}
use Rattle.codes.proofs.Many.{many_end}
use Rattle.numbers.specs.Numbers.{path_count, live}
use Rattle.rules.specs.Relay.{Slot, empty, used}
use Rattle.rules.specs.View.{is_expired_path, expiry_if, later, latest, expired_path}
use Rattle.rules.proofs.Latest.{latest_cong}
use Rattle.tables.specs.Places.{paths_at, path_width, address_width, time_width}
use Rattle.tables.specs.Fields.{path_expiry_at}
use Rattle.tables.specs.Records.{slot_of, path_of}
use Rattle.tables.specs.Layout.{record_at, relay_of}
use Rattle.tables.proofs.Seen.{path_seen}
use Rattle.tables.proofs.Chunks.{chunk_count, chunk_at}
use Rattle.lookup.proofs.HeldBlobs.{greatest_is_max}
use Rattle.lookup.specs.Search.{is_used, has_key}
use Rattle.lookup.specs.Expired.{latest_of, expiry_of}

-- ---- one record
module _ (clock : ℕ) (destination : List ℕ) (wide : length destination ≡ address_width) (b : List ℕ) where
  abbrev expiry : ℕ
  expiry = number (part b path_expiry_at time_width)

  abbrev told : Slot ℕ
  told = expiry_if (is_expired_path clock destination) (slot_of path_of b)

  by_key : has_key destination b ≡ (is_used b and same (part b 1 address_width) destination)
  unfolding has_key
  by_key = ap (λ (n : ℕ). is_used b and same (part b 1 n) destination) wide

  by_tests : told ≡ ((has_key destination b and not (live clock expiry)) then used expiry otherwise empty)
  unfolding expiry_if is_expired_path slot_of path_of is_used ◌then◌otherwise◌ ◌and◌
  by_tests = rw by_key (go (eqb (get_or b 0 0) 0) (same (part b 1 address_width) destination) refl refl)
    where
      go : (m s : Bool) → eqb (get_or b 0 0) 0 ≡ m → same (part b 1 address_width) destination ≡ s
          → told ≡ (((is_used b and same (part b 1 address_width) destination) and not (live clock expiry)) then used expiry otherwise empty)
      go true s e q = rw e refl
      go false s e q = rw e refl

  -- whether it has the key
  module _ {r : Bool} (e : r ≡ has_key destination b) where
    pub another_key : r ≡ false → None ≡ latest_of (expiry_of clock destination b)
    unfolding latest_of expiry_of ◌then◌otherwise◌ ◌and◌
    another_key q = let none : told ≡ empty = by_tests ∙ rw (sym e ∙ q) refl in ap latest_of (sym none)

    module _ (q : r ≡ true) {time : ℕ} (f : time ≡ expiry) where
      pub still_live : clock < time → None ≡ latest_of (expiry_of clock destination b)
      unfolding latest_of expiry_of ◌then◌otherwise◌ ◌and◌
      still_live l =
          let h : live clock expiry ≡ true = lt-ltb _ _ (subst (λ (n : ℕ). clock < n) f l) in
          let none : told ≡ empty = by_tests ∙ rw (sym e ∙ q, h) refl in
          ap latest_of (sym none)

      pub run_out : time ≤ clock → Some time ≡ latest_of (expiry_of clock destination b)
      unfolding latest_of expiry_of ◌then◌otherwise◌ ◌and◌
      run_out l =
          let h : live clock expiry ≡ false = le-ltb _ _ (subst (λ (n : ℕ). n ≤ clock) f l) in
          let some : told ≡ used expiry = by_tests ∙ rw (sym e ∙ q, h) refl in
          ap latest_of (ap used f ∙ sym some)

-- ---- the latest of some times, from the first on
ahead : Slot ℕ → (ℕ → Slot ℕ) → ℕ → Slot ℕ
ahead s f zero = s
ahead s f (suc n) = ahead (later s (f 0)) (λ k. f (suc k)) n

ahead_last : (s : Slot ℕ) (f : ℕ → Slot ℕ) (n : ℕ) → ahead s f (suc n) ≡ later (ahead s f n) (f n)
unfolding ahead
ahead_last s f zero = refl
ahead_last s f (suc n) = ahead_last (later s (f 0)) (λ k. f (suc k)) n

ahead_latest : (f : ℕ → Slot ℕ) (n : ℕ) → ahead empty f n ≡ latest f n
unfolding latest ahead
ahead_latest f zero = refl
ahead_latest f (suc n) = ahead_last empty f n ∙ ap (λ (s : Slot ℕ). later s (f n)) (ahead_latest f n)

-- what `filter_map(time).max()` gives of some records
module _ (time : List ℕ → Slot ℕ) where
  abbrev times : List (List ℕ) → List ℕ
  times = filter_map (λ b. latest_of (time b))

  one_more : (s t : Slot ℕ) (ys : List ℕ)
      → reduce max (cons_option (latest_of s) (cons_option (latest_of t) ys)) ≡ reduce max (cons_option (latest_of (later s t)) ys)
  unfolding latest_of later
  one_more empty t ys = refl
  one_more (used s) empty ys = refl
  one_more (used s) (used t) ys = ap (λ (m : ℕ). Some (fold max m ys)) (sym (greatest_is_max s t))

  reduced : (s : Slot ℕ) (bs : List (List ℕ))
      → reduce max (cons_option (latest_of s) (times bs)) ≡ latest_of (ahead s (λ i. time (get_or bs i [])) (length bs))
  unfolding latest_of ahead
  reduced empty [] = refl
  reduced (used s) [] = refl
  reduced s (b ∷ bs) = one_more s (time b) (times bs) ∙ reduced (later s (time b)) bs

  latest_in : (bs : List (List ℕ)) → reduce max (times bs) ≡ latest_of (latest (λ i. time (get_or bs i [])) (length bs))
  unfolding latest_of
  latest_in bs = reduced empty bs ∙ ap latest_of (ahead_latest (λ i. time (get_or bs i [])) (length bs))

-- .. and of those of the paths
pub all_seen : (clock : ℕ) (destination t : List ℕ) {xs : List ℕ} → xs ≡ part t paths_at (path_width * path_count)
    → reduce max (filter_map (λ b. latest_of (expiry_of clock destination b)) (first_chunks path_width path_count xs))
    ≡ latest_of (expired_path clock (relay_of t) destination)
unfolding expired_path expiry_of
all_seen clock destination t {xs} bytes =
    let bs = first_chunks path_width path_count xs in
    let time = expiry_of clock destination in
    latest_in time bs
    ∙ ap (λ (n : ℕ). latest_of (latest (λ i. time (get_or bs i [])) n)) (chunk_count path_width path_count xs)
    ∙ ap latest_of (latest_cong _ _ path_count
    (λ k q. ap time (chunk_at path_width path_count xs k q
    ∙ ap (λ (ys : List ℕ). record_at 0 path_width ys k) bytes
    ∙ part_part t paths_at (path_width * path_count) (0 + path_width * k) path_width (omega (arith, many_end path_width path_count k q))
    ∙ ap (λ (a : ℕ). part t a path_width) (omega arith))
    ∙ ap (expiry_if (is_expired_path clock destination)) (sym (path_seen t k q))))
