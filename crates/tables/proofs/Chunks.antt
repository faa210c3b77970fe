-- Records one after the other as the chunks of a slice: what a chain over them tests.
use Prim.Native.Nat.{ℕ, zero, suc, ◌+◌, ◌*◌, ◌-◌, ◌/◌, ◌≤◌, ◌<◌}
use native.Mathlib.Nat.{add-zero, add_assoc, mul-add, mul_assoc, mul-suc, mul-div_cancel_left, add-div_left, div-eq_of_lt}
use native.Mathlib.Omega.{arith}
use mathlib.Core.Bool.{Bool, true, false, cond, ◌&&◌}
use mathlib.Core.List.{List, [], ◌∷◌, ◌++◌}
use mathlib.Core.Path.{◌≡◌, refl, sym, ap, ap₂, subst, ◌∙◌}
use lib.ListN.{length, get_or, take, drop, length-append, length-drop}
use lib.Dec.{ltb}
use lib.Seq.{take_at, drop_at, drop-drop, take_all}
use denote.Param.Members.{Mut}
use denote.Ref.{Bor}
use Rattle.std.specs.Prelude.{Option, Some, None, MatchOption}
use Rattle.std.specs.Fn.{Called}
use Rattle.std.specs.Iterator.{YieldsThen}
use Rattle.std.specs.List.{list_all, position_or_len, FoldsTo}
use Rattle.std.specs.Simd.{first_chunks}
use Rattle.std.specs.Slice.Iter.{chunks_exact_rest, chunks_exact_size, chunks_exact_steps}
use Rattle.std.specs.declared.slice.ChunksExact.{ChunksExact}
use Rattle.std.proofs.lemmas.Iterator.{YieldsList}
use Rattle.std.proofs.lemmas.Iterator.Search.{all_from_yields_List, position_from_yields_List}
use Rattle.std.proofs.lemmas.Iterator.Splits.{YieldsList-from_shown_while}
use Rattle.octets.specs.Index.{◌and◌, all_below, first, zeros}
use Rattle.octets.specs.Part.{part}
use Rattle.octets.specs.BigEndian.{number}
use Rattle.octets.proofs.Index.{and_true, first_none, first_cong, all_at, all_intro, all_plus, all_cong}
use Rattle.octets.proofs.Zeros.{zeros_part}
use Rattle.octets.proofs.Part.{part_part, part_range, range_length}
use Rattle.octets.proofs.Chains.{both_is_and, all_front, place_turned, first_front}
use Rattle.codes.proofs.Many.{many_end}
use Rattle.tables.specs.Places.{ring_width}
use Rattle.tables.specs.Layout.{record_at, records_ok}

-- what `&t[a..a + w]` holds
abbrev pub range : List ℕ → ℕ → ℕ → List ℕ
range t a w = take (a + w - a) (drop a t)

-- the chunks that are left
abbrev left : ChunksExact ℕ → List (List ℕ)
left s = first_chunks (chunks_exact_size s) (length (chunks_exact_rest s) / chunks_exact_size s) (chunks_exact_rest s)

none_left : (s t : ChunksExact ℕ) → 0 < chunks_exact_size s → chunks_exact_steps s None t → length (left s) ≡ 0
none_left s t some h =
    let e : length (chunks_exact_rest s) / chunks_exact_size s ≡ 0 = div-eq_of_lt h.1.0 in
    ap (λ (k : ℕ). length (first_chunks (chunks_exact_size s) k (chunks_exact_rest s))) e

one_left : (s : ChunksExact ℕ) (b : Bor (List ℕ)) (t : ChunksExact ℕ) → 0 < chunks_exact_size s → chunks_exact_steps s (Some b) t
    → (0 < chunks_exact_size t) × (left s ≡ b.now ∷ left t)
one_left s b t some h =
    let w : ℕ = chunks_exact_size s in
    let rest : List ℕ = chunks_exact_rest t in
    let count : length (b.now ++ rest) / w ≡ suc (length rest / w) =
    ap (λ (k : ℕ). k / w) (length-append b.now rest ∙ ap (λ (k : ℕ). k + length rest) h.1.1) ∙ add-div_left (length rest) some ∙ omega arith in (
      omega (arith, h.0),
      ap (λ (xs : List ℕ). first_chunks w (length xs / w) xs) h.1.0
          ∙ ap (λ (k : ℕ). first_chunks w k (b.now ++ rest)) count
          ∙ ap₂ (λ (x xs : List ℕ). x ∷ first_chunks w (length rest / w) xs) (take_at b.now rest w h.1.1) (drop_at b.now rest w h.1.1)
          ∙ ap (λ (k : ℕ). b.now ∷ first_chunks k (length rest / k) rest) (sym h.0),
    )

pub chunks_yield : {s : ChunksExact ℕ} (w n : ℕ) (xs : List ℕ) → 0 < w → chunks_exact_size s ≡ w → chunks_exact_rest s ≡ xs → length xs ≡ w * n
    → YieldsList chunks_exact_steps (λ b. b.now) s (first_chunks w n xs)
chunks_yield {s} w n xs some size rest long =
    let count : length xs / w ≡ n = ap (λ (k : ℕ). k / w) long ∙ mul-div_cancel_left n some in
    let shown : left s ≡ first_chunks w n xs =
    (λ i. first_chunks (size i) (length (rest i) / size i) (rest i)) ∙ ap (λ (k : ℕ). first_chunks w k xs) count in
    subst (λ (ys : List (List ℕ)). YieldsList chunks_exact_steps (λ b. b.now) s ys) shown
    (YieldsList-from_shown_while chunks_exact_steps (λ b. b.now) left (λ t. 0 < chunks_exact_size t) none_left one_left s (omega (arith, size)))

pub is_part : (n a : ℕ) (t : List ℕ) → take n (drop a t) ≡ part t a n
unfolding part
is_part n a t = refl

first_part : (w : ℕ) (xs : List ℕ) → take w xs ≡ record_at 0 w xs 0
unfolding part
first_part w xs = let e : 0 ≡ 0 + w * 0 = omega arith in ap (λ (a : ℕ). take w (drop a xs)) e

next_part : (w : ℕ) (xs : List ℕ) (k : ℕ) → record_at 0 w (drop w xs) k ≡ record_at 0 w xs (suc k)
unfolding part
next_part w xs k =
    let e : w + (0 + w * k) ≡ 0 + w * suc k = omega (arith, mul-suc w k) in
    ap (take w) (drop-drop (0 + w * k) w xs ∙ ap (λ (a : ℕ). drop a xs) e)

-- each chunk passes the test p
pub all_chunks : (p : List ℕ → Bool) (w n : ℕ) (xs : List ℕ) → list_all p (first_chunks w n xs) ≡ records_ok p 0 w n xs
unfolding records_ok all_below
all_chunks p w zero xs = refl
all_chunks p w (suc n) xs =
    both_is_and (p (take w xs)) (list_all p (first_chunks w n (drop w xs)))
    ∙ ap₂ (λ (b c : Bool). b and c) (ap p (first_part w xs))
    (all_chunks p w n (drop w xs)
    ∙ all_cong (λ k. p (record_at 0 w (drop w xs) k)) (λ k. p (record_at 0 w xs (suc k))) n (λ k l. ap p (next_part w xs k)))
    ∙ sym (all_front (λ k. p (record_at 0 w xs k)) n)

-- records within a part
pub records_within : (p : List ℕ → Bool) (at size from w n : ℕ) (t : List ℕ) → from + w * n ≤ size
    → records_ok p from w n (part t at size) ≡ records_ok p (at + from) w n t
unfolding records_ok
records_within p at size from w n t fits =
    all_cong (λ k. p (record_at from w (part t at size) k)) (λ k. p (record_at (at + from) w t k)) n
    (λ k l. ap p (part_part t at size (from + w * k) w (omega (arith, fits, many_end w n k l))
    ∙ ap (λ (a : ℕ). part t a w) (sym (add_assoc at from (w * k)))))

pub records_of_part : (p : List ℕ → Bool) (at w n : ℕ) (t : List ℕ) → records_ok p 0 w n (part t at (w * n)) ≡ records_ok p at w n t
records_of_part p at w n t = records_within p at (w * n) 0 w n t (omega arith) ∙ ap (λ (a : ℕ). records_ok p a w n t) (add-zero at)

-- `xs.chunks_exact(w).all(p)`, and the same of a range of t
module _ {F : Type 0} {g : Mut F (Bor (List ℕ) × Unit {0}) Bool} {s u : ChunksExact ℕ} {f : F} {r : Bool} (p : List ℕ → Bool) (w n : ℕ)
    (ran : (xs : List (Bor (List ℕ))) × (o : Option (Bor (List ℕ))) × (j : F) × YieldsThen chunks_exact_steps s xs o u
    × FoldsTo (λ a x b. Called g a (x, tt) true b) f xs j
    × MatchOption o (r ≡ true) (λ x. (r ≡ false) × ((h : F) × Called g j (x, tt) false h)))
    (size : chunks_exact_size s ≡ w) (some : 0 < w)
    (test : (x : Bor (List ℕ)) (b : Bool) (q : F) → Called g f (x, tt) b q → (q ≡ f) × (b ≡ p x.now)) where
  pub every_chunk : (xs : List ℕ) → chunks_exact_rest s ≡ xs → length xs ≡ w * n → r ≡ records_ok p 0 w n xs
  every_chunk xs rest long = all_from_yields_List p u f r ran (chunks_yield w n xs some size rest long) test ∙ all_chunks p w n xs

  pub every_chunk_of : (at : ℕ) (t : List ℕ) → chunks_exact_rest s ≡ range t at (w * n) → at + w * n ≤ length t → r ≡ records_ok p at w n t
  every_chunk_of at t rest fits =
      every_chunk (range t at (w * n)) rest (range_length t at (w * n) fits)
      ∙ ap (λ (xs : List ℕ). records_ok p 0 w n xs) (part_range t at (w * n))
      ∙ records_of_part p at w n t

-- ---- the first chunk that passes
pub chunk_count : (w n : ℕ) (xs : List ℕ) → length (first_chunks w n xs) ≡ n
chunk_count w zero xs = refl
chunk_count w (suc n) xs = ap suc (chunk_count w n (drop w xs))

pub chunk_at : (w n : ℕ) (xs : List ℕ) (i : ℕ) → i < n → get_or (first_chunks w n xs) i [] ≡ record_at 0 w xs i
chunk_at w zero xs i l = absurd (omega arith)
chunk_at w (suc n) xs zero l = first_part w xs
chunk_at w (suc n) xs (suc i) l = chunk_at w n (drop w xs) i (omega arith) ∙ next_part w xs i

pub place_in_chunks : (p : List ℕ → Bool) (w n : ℕ) (xs : List ℕ) → position_or_len p (first_chunks w n xs) ≡ first (λ k. p (record_at 0 w xs k)) n
place_in_chunks p w zero xs = sym (first_none (λ k. p (record_at 0 w xs k)))
place_in_chunks p w (suc n) xs =
    place_turned (p (take w xs)) (position_or_len p (first_chunks w n (drop w xs))) (first (λ k. p (record_at 0 w xs (suc k))) n)
    (place_in_chunks p w n (drop w xs) ∙ first_cong _ _ n (λ k l. ap p (next_part w xs k)))
    ∙ ap (λ (b : List ℕ). cond (p b) 0 (suc (first (λ k. p (record_at 0 w xs (suc k))) n))) (first_part w xs)
    ∙ sym (first_front (λ k. p (record_at 0 w xs k)) n)

-- `xs.chunks_exact(w).position(p)`
module _ {F : Type 0} {g : Mut F (Bor (List ℕ) × Unit {0}) Bool} {s u : ChunksExact ℕ} {f : F} (p : List ℕ → Bool) (w n : ℕ)
    (size : chunks_exact_size s ≡ w) (some : 0 < w)
    (test : (x : Bor (List ℕ)) (b : Bool) (q : F) → Called g f (x, tt) b q → (q ≡ f) × (b ≡ p x.now))
    (xs : List ℕ) (rest : chunks_exact_rest s ≡ xs) (long : length xs ≡ w * n) where
  pub chunk_place : {r : Option ℕ}
      → (ys : List (Bor (List ℕ))) × (o : Option (Bor (List ℕ))) × (j : F) × YieldsThen chunks_exact_steps s ys o u
      × FoldsTo (λ a x b. Called g a (x, tt) false b) f ys j
      × MatchOption o (r ≡ None) (λ x. (r ≡ Some (length ys)) × ((h : F) × Called g j (x, tt) true h))
      → r ≡ cond (ltb (first (λ k. p (record_at 0 w xs k)) n) n) (Some (first (λ k. p (record_at 0 w xs k)) n)) None
  chunk_place {r} ran =
      position_from_yields_List p u f r ran (chunks_yield w n xs some size rest long) test
      ∙ (λ i. cond (ltb (place_in_chunks p w n xs i) (chunk_count w n xs i)) (Some (place_in_chunks p w n xs i)) None)

-- ---- groups of m records
module _ (p : List ℕ → Bool) (at w m : ℕ) (t : List ℕ) where
  next_group : (g k : ℕ) → at + w * m * g + w * k ≡ at + w * (m * g + k)
  next_group g k =
      add_assoc at (w * m * g) (w * k)
      ∙ ap (λ (a : ℕ). at + a) (ap (λ (a : ℕ). a + w * k) (mul_assoc w m g) ∙ sym (mul-add w (m * g) k))

  pub groups_are_records : (n : ℕ) → records_ok (records_ok p 0 w m) at (w * m) n t ≡ records_ok p at w (m * n) t
  unfolding records_ok all_below
  groups_are_records zero = let q : 0 ≡ m * 0 = omega arith in ap (λ (k : ℕ). all_below (λ i. p (record_at at w t i)) k) q
  groups_are_records (suc n) =
      let q : m * suc n ≡ m * n + m = omega (arith, mul-suc m n) in
      ap₂ (λ (b c : Bool). b and c) (groups_are_records n)
      (records_of_part p (at + w * m * n) w m t
      ∙ all_cong (λ k. p (record_at (at + w * m * n) w t k)) (λ k. p (record_at at w t (m * n + k))) m
      (λ k l. ap (λ (a : ℕ). p (part t a w)) (next_group n k)))
      ∙ sym (all_plus (λ k. p (record_at at w t k)) (m * n) m)
      ∙ sym (ap (λ (k : ℕ). all_below (λ i. p (record_at at w t i)) k) q)

-- ---- several records at once
-- a run of zeros
pub all_unused : (ok : List ℕ → Bool) (w n : ℕ) (xs : List ℕ) → ((b : List ℕ) → zeros w b ≡ true → ok b ≡ true)
    → length xs ≡ w * n → zeros (length xs) xs ≡ true → records_ok ok 0 w n xs ≡ true
unfolding records_ok
all_unused ok w n xs free long unused =
    all_intro (λ i. ok (record_at 0 w xs i)) n
    (λ i l. free (record_at 0 w xs i)
    (zeros_part xs (w * n) (0 + w * i) w (ap (λ (k : ℕ). zeros k xs) (sym long) ∙ unused) (omega (arith, many_end w n i l))))

-- records that keep a stronger rule
pub records_kept : (strong ok : List ℕ → Bool) (w n : ℕ) (xs : List ℕ)
    → ((i : ℕ) → i < n → strong (record_at 0 w xs i) ≡ true → ok (record_at 0 w xs i) ≡ true)
    → records_ok strong 0 w n xs ≡ true → records_ok ok 0 w n xs ≡ true
unfolding records_ok
records_kept strong ok w n xs kept h =
    all_intro (λ i. ok (record_at 0 w xs i)) n (λ i l. kept i l (all_at (λ k. strong (record_at 0 w xs k)) n i h l))

pub two_groups : (p : List ℕ → Bool) (w m : ℕ) (xs : List ℕ) → length xs ≡ w * (m * 2)
    → (records_ok p 0 w m (take (w * m) xs) and records_ok p 0 w m (drop (w * m) xs)) ≡ records_ok p 0 w (m * 2) xs
two_groups p w m xs long =
    let q : List ℕ → Bool = records_ok p 0 w m in
    let a : Bool = q (take (w * m) xs) in
    let b : Bool = q (take (w * m) (drop (w * m) xs)) in
    let twice : w * (m * 2) ≡ w * m + w * m = sym (mul_assoc w m 2) ∙ omega arith in
    ap (λ (ys : List ℕ). a and q ys) (sym (take_all (w * m) (drop (w * m) xs) (omega (arith, length-drop (w * m) xs))))
    ∙ sym (both_is_and a (b && true) ∙ ap (λ (c : Bool). a and c) (both_is_and b true ∙ and_true b))
    ∙ all_chunks q (w * m) 2 xs ∙ groups_are_records p 0 w m xs 2

-- a ring, its next place before its records, as it stands in t
pub ring_in : (p : List ℕ → Bool) (at w n : ℕ) (t : List ℕ) {from size : ℕ} → from ≡ at → size ≡ ring_width + w * n
    → (ltb (number (part (take size (drop from t)) 0 ring_width)) n and records_ok p ring_width w n (take size (drop from t)))
    ≡ (ltb (number (part t at ring_width)) n and records_ok p (at + ring_width) w n t)
ring_in p at w n t e f =
    (λ i. ltb (number (part (is_part (f i) (e i) t i) 0 ring_width)) n and records_ok p ring_width w n (is_part (f i) (e i) t i))
    ∙ ap₂ (λ (x : List ℕ) (b : Bool). ltb (number x) n and b)
    (part_part t at (ring_width + w * n) 0 ring_width (omega arith) ∙ ap (λ (a : ℕ). part t a ring_width) (add-zero at))
    (records_within p at (ring_width + w * n) ring_width w n t (omega arith))
