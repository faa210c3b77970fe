-- The blobs of a path, for any limit: between one and the limit are held, no two of them are equal, and none has an emission above the greatest.
use Prim.Native.Nat.{ℕ, zero, suc, ◌≤◌, ◌<◌}
use native.Mathlib.Nat.{le_refl, not-suc-le-zero, le_of_suc-le-suc}
use native.Mathlib.Decide.{ℕ_discrete}
use native.Mathlib.Numerals.{add-one}
use native.Mathlib.Omega.{arith}
use mathlib.Core.Bool.{Bool, true, false, false≢true}
use mathlib.Core.List.{List, [], ◌∷◌, ◌++◌}
use mathlib.Core.Path.{◌≡◌, refl, sym, ap, subst, ◌∙◌}
use lib.Dec.{ltb}
use lib.ListN.{length, get_or, take, drop, set, length-set, length-append, length-drop, length-replicate, get_or-append}
use lib.Seq.{take-suc-set, take_all, get_or_at}
use borrow.Author.Tests.{ltb-true, ltb-false}
use Rattle.octets.specs.Choice.{◌then◌otherwise◌, same}
use Rattle.octets.proofs.Choice.{or_else, or_no_left, or_no_right, same_eq, same_ne}
use Rattle.packet.specs.Announce.{emission_of}
use Rattle.rules.specs.Relay.{Blobs}
use Rattle.rules.specs.Blobs.{held, is_among, greatest, greatest_emission, one_blob, add_blob, store_blob}
use Rattle.rules.proofs.Choices.{either}

-- no two are equal
abbrev pub Distinct : List (List ℕ) → Type 0
Distinct xs = (i j : ℕ) → i < length xs → j < length xs → get_or xs i [] ≡ get_or xs j [] → i ≡ j

-- from one to the limit are held
pub record Counted (limit : ℕ) (count : ℕ) : Type 0 where
  pub some : 1 ≤ count
  pub most : count ≤ limit

-- .. in as many places as the limit
abbrev pub Placed : ℕ → Blobs → Type 0
Placed limit b = length b.places ≡ limit

distinct_nil : Distinct []
distinct_nil i j li lj e = absurd (not-suc-le-zero li)

distinct_tail : (xs : List (List ℕ)) → Distinct xs → Distinct (drop 1 xs)
distinct_tail [] d = distinct_nil
distinct_tail (x ∷ xs) d =
    λ i j li lj e. let q : suc i ≡ suc j = d (suc i) (suc j) (omega arith) (omega arith) e in omega arith

-- ---- what is not among them
not_at : (x : List ℕ) (xs : List (List ℕ)) → is_among x xs ≡ false → (i : ℕ) → i < length xs → get_or xs i [] ≡ x → ⊥
unfolding is_among
not_at x [] h i l e = not-suc-le-zero l
not_at x (y ∷ ys) h zero l e = same_ne y x (or_no_left _ _ h) e
not_at x (y ∷ ys) h (suc i) l e = not_at x ys (or_no_right _ _ h) i (le_of_suc-le-suc l) e

not_in_tail : (x : List ℕ) (xs : List (List ℕ)) → is_among x xs ≡ false → is_among x (drop 1 xs) ≡ false
unfolding is_among
not_in_tail x [] h = h
not_in_tail x (y ∷ ys) h = or_no_right _ _ h

-- ---- the emission of one that is held is at most the greatest
pub among_emission : (x : List ℕ) (xs : List (List ℕ)) → is_among x xs ≡ true → emission_of x ≤ greatest_emission xs
unfolding is_among greatest_emission greatest
among_emission x [] h = absurd (false≢true h)
among_emission x (y ∷ ys) h = go (same y x) refl (among_emission x ys)
  where
    below : Bool
    below = ltb (emission_of y) (greatest_emission ys)

    go : (b : Bool) → same y x ≡ b → (is_among x ys ≡ true → emission_of x ≤ greatest_emission ys)
        → emission_of x ≤ (below then greatest_emission ys otherwise emission_of y)
    go true e others =
        let here = ap emission_of (same_eq y x e) in
        either (λ (n : ℕ). emission_of x ≤ n) below (λ l. omega (arith, ltb-true (emission_of y) (greatest_emission ys) l, here)) (λ l. omega (arith, here))
    go false e others =
        let there = others (sym (or_else (is_among x ys) e) ∙ h) in
        either (λ (n : ℕ). emission_of x ≤ n) below (λ l. there) (λ l. omega (arith, ltb-false (emission_of y) (greatest_emission ys) l, there))

distinct_more : (xs : List (List ℕ)) (x : List ℕ) → Distinct xs → is_among x xs ≡ false → Distinct (xs ++ (x ∷ []))
distinct_more xs x d h i j li lj e = go (ℕ_discrete i (length xs)) (ℕ_discrete j (length xs))
  where
    below : (k : ℕ) → k < length (xs ++ (x ∷ [])) → (k ≡ length xs → ⊥) → k < length xs
    below k l ne = omega (arith, length-append xs (x ∷ []))

    old : (k : ℕ) → k < length xs → get_or (xs ++ (x ∷ [])) k [] ≡ get_or xs k []
    old k l = get_or-append xs (x ∷ []) [] k l

    new : (k : ℕ) → k ≡ length xs → get_or (xs ++ (x ∷ [])) k [] ≡ x
    new k q = get_or_at xs x [] [] k (sym q)

    go : Dec (i ≡ length xs) → Dec (j ≡ length xs) → i ≡ j
    go (yes p) (yes q) = p ∙ sym q
    go (yes p) (no q) =
        let l : j < length xs = below j lj q in
        absurd (not_at x xs h j l (sym (old j l) ∙ sym e ∙ new i p))
    go (no p) (yes q) =
        let l : i < length xs = below i li p in
        absurd (not_at x xs h i l (sym (old i l) ∙ e ∙ new j q))
    go (no p) (no q) =
        let mi : i < length xs = below i li p in
        let mj : j < length xs = below j lj q in
        d i j mi mj (sym (old i mi) ∙ e ∙ old j mj)

-- ---- a new path's blobs
module _ (limit : ℕ) (least : 1 ≤ limit) (x : List ℕ) where
  pub one_counted : Counted limit (one_blob limit x).count
  unfolding one_blob
  one_counted = record { some = le_refl 1; most = least }

  pub one_placed : Placed limit (one_blob limit x)
  unfolding one_blob
  one_placed = rw length-replicate (omega arith)

  pub one_distinct : Distinct (held (one_blob limit x))
  unfolding one_blob held is_among
  one_distinct = distinct_more [] x distinct_nil refl

  -- ---- one more blob
  module _ (b : Blobs) (counted : Counted limit b.count) where
    add_counted : Counted limit (add_blob limit x b).count
    unfolding add_blob
    add_counted =
        either (λ (c : Blobs). Counted limit c.count) (ltb b.count limit)
        (λ less. let l : b.count < limit = ltb-true _ _ less in record { some = omega arith; most = omega arith })
        (λ _. counted)

    -- one that is held already isn't stored twice
    pub store_counted : Counted limit (store_blob limit x b).count
    unfolding store_blob
    store_counted = either (λ (c : Blobs). Counted limit c.count) (is_among x (held b)) (λ _. counted) (λ _. add_counted)

    module _ (placed : Placed limit b) where
      add_placed : Placed limit (add_blob limit x b)
      unfolding add_blob
      add_placed =
          either (Placed limit) (ltb b.count limit)
          (λ _. length-set b.places b.count x ∙ placed)
          (λ _. simp (length-append, length-drop) (omega arith))

      -- it is none of those held
      add_distinct : Distinct (held b) → is_among x (held b) ≡ false → Distinct (held (add_blob limit x b))
      unfolding add_blob held
      add_distinct d h =
          either (λ (c : Blobs). Distinct (held c)) (ltb b.count limit)
          (λ less.
          let m : b.count < limit = ltb-true _ _ less in
          let l : b.count < length b.places = omega arith in
          subst Distinct (sym (ap (λ (n : ℕ). take n (set b.places b.count x)) (add-one b.count) ∙ take-suc-set b.places b.count x l))
          (distinct_more (take b.count b.places) x d h))
          (λ full.
          let m : limit ≤ b.count = ltb-false _ _ full in
          let all : take b.count b.places ≡ b.places = take_all b.count b.places (omega arith) in
          subst Distinct (sym (take_all b.count (drop 1 b.places ++ (x ∷ [])) (simp (length-append, length-drop) (omega arith))))
          (distinct_more (drop 1 b.places) x (distinct_tail b.places (subst Distinct all d)) (not_in_tail x b.places (rw all at h))))

      pub store_placed : Placed limit (store_blob limit x b)
      unfolding store_blob
      store_placed = either (Placed limit) (is_among x (held b)) (λ _. placed) (λ _. add_placed)

      pub store_distinct : Distinct (held b) → Distinct (held (store_blob limit x b))
      unfolding store_blob
      store_distinct d = either (λ (c : Blobs). Distinct (held c)) (is_among x (held b)) (λ _. d) (λ new. add_distinct d new)
