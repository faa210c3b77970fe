-- What iterator chains and the library's equality say, in the words of specs/Index.antt and specs/Choice.antt.
use Rattle.std.proofs.Common.{ℕ, zero, suc, ◌+◌, ◌≤◌, ◌<◌, Bool, true, false, cond, not, eqb, ltb, Option, Some, None, List, [], ◌∷◌, length, get_or, ◌≡◌, refl, sym, ◌∙◌, ap, ap₂, arith, ⊎_elim}
use Rattle.std.specs.List.{range_with_len, list_all, find, position_or_len}
use Rattle.std.specs.Option.{unwrap_or}
use lib.Pointwise.{pointwise}
use mathlib.Core.Bool.{◌&&◌, ◌||◌}
use native.Mathlib.Nat.{eq-or-lt_of_le, le_refl}
use borrow.Author.Tests.{lt-ltb, le-ltb}
use Rattle.octets.specs.Index.{◌and◌, all_below, first, agree}
use Rattle.octets.specs.Choice.{◌or◌, same}
use Rattle.octets.proofs.Index.{all_cong, first_none, first_le, first_hit, first_holds, first_before, first_absent, first_cong, and_true, and_assoc}
use Rattle.octets.proofs.Choice.{same_agree}

-- ---- the operators of the code
pub both_is_and : (a b : Bool) → (a && b) ≡ (a and b)
unfolding ◌and◌
both_is_and true b = refl
both_is_and false b = refl

pub either_is_or : (a b : Bool) → (a || b) ≡ (a or b)
unfolding ◌or◌
either_is_or true b = refl
either_is_or false b = refl

-- ---- `==` of two slices or arrays
pub equal_is_same : (a b : List ℕ) → pointwise eqb a b ≡ same a b
unfolding same
equal_is_same [] [] = refl
equal_is_same [] (y ∷ ys) = refl
equal_is_same (x ∷ xs) [] = refl
equal_is_same (x ∷ xs) (y ∷ ys) = both_is_and (eqb x y) (pointwise eqb xs ys) ∙ ap (λ (b : Bool). eqb x y and b) (equal_is_same xs ys)

pub equal_is_agree : (n : ℕ) (a b : List ℕ) → length a ≡ n → length b ≡ n → pointwise eqb a b ≡ agree n a b
equal_is_agree n a b l m = equal_is_same a b ∙ same_agree n a b l m

-- ---- `all`, `find` and `position`: the first index before the others
pub all_front : (p : ℕ → Bool) (n : ℕ) → all_below p (suc n) ≡ (p 0 and all_below (λ k. p (suc k)) n)
unfolding all_below ◌and◌
all_front p zero = sym (and_true (p 0))
all_front p (suc n) =
    ap (λ (b : Bool). b and p (suc n)) (all_front p n) ∙ and_assoc (p 0) (all_below (λ k. p (suc k)) n) (p (suc n))

fails_before : (p : ℕ → Bool) (n m : ℕ) → p 0 ≡ false → m ≤ first (λ k. p (suc k)) n → (j : ℕ) → j < suc m → p j ≡ false
fails_before p n m h l zero k = h
fails_before p n m h l (suc j) k = first_before (λ k. p (suc k)) n j (omega arith)

first_there : (p : ℕ → Bool) (n : ℕ) → p 0 ≡ true → first p (suc n) ≡ 0
first_there p n h = first_hit p 0 (suc n) (first_none p) h (omega arith)

first_behind : (p : ℕ → Bool) (n : ℕ) → p 0 ≡ false → first p (suc n) ≡ suc (first (λ k. p (suc k)) n)
first_behind p n h =
    let q : ℕ → Bool = λ k. p (suc k) in
    let m = first q n in
    ⊎_elim
    (λ (e : m ≡ n). first_absent p (suc n) (fails_before p n n h (omega arith)) ∙ ap suc (sym e))
    (λ (l : m < n). first_hit p (suc m) (suc n) (first_absent p (suc m) (fails_before p n m h (le_refl m))) (first_holds q n l) (omega arith))
    (eq-or-lt_of_le (first_le q n))

first_of_both : (p : ℕ → Bool) (n : ℕ) (b : Bool) → p 0 ≡ b → first p (suc n) ≡ cond b 0 (suc (first (λ k. p (suc k)) n))
first_of_both p n true h = first_there p n h
first_of_both p n false h = first_behind p n h

pub first_front : (p : ℕ → Bool) (n : ℕ) → first p (suc n) ≡ cond (p 0) 0 (suc (first (λ k. p (suc k)) n))
first_front p n = first_of_both p n (p 0) refl

-- over a..a + n
pub all_over_range : (p : ℕ → Bool) (a n : ℕ) → list_all p (range_with_len a n) ≡ all_below (λ k. p (a + k)) n
unfolding all_below
all_over_range p a zero = refl
all_over_range p a (suc n) =
    both_is_and (p a) (list_all p (range_with_len (a + 1) n))
    ∙ ap (λ (b : Bool). p a and b) (all_over_range p (a + 1) n)
    ∙ ap₂ (λ (b c : Bool). b and c) (ap p (omega arith))
    (all_cong (λ k. p (a + 1 + k)) (λ k. p (a + suc k)) n (λ i l. ap p (omega arith)))
    ∙ sym (all_front (λ k. p (a + k)) n)

-- over 0..n
pub all_over : (p : ℕ → Bool) (n : ℕ) → list_all p (range_with_len 0 n) ≡ all_below p n
all_over p n = all_over_range p 0 n ∙ all_cong (λ k. p (0 + k)) p n (λ i l. ap p (omega arith))

-- over the elements
pub all_over_list : (p : ℕ → Bool) (d : ℕ) (xs : List ℕ) → list_all p xs ≡ all_below (λ k. p (get_or xs k d)) (length xs)
unfolding all_below
all_over_list p d [] = refl
all_over_list p d (x ∷ xs) =
    both_is_and (p x) (list_all p xs)
    ∙ ap (λ (b : Bool). p x and b) (all_over_list p d xs)
    ∙ sym (all_front (λ k. p (get_or (x ∷ xs) k d)) (length xs))

-- the place of the first element that passes, or the number of elements
pub place_turned : (b : Bool) (m n : ℕ) → m ≡ n → cond (not b) (1 + m) 0 ≡ cond b 0 (suc n)
place_turned true m n e = refl
place_turned false m n e = omega arith

pub place_in_list : (p : ℕ → Bool) (d : ℕ) (xs : List ℕ) → position_or_len p xs ≡ first (λ k. p (get_or xs k d)) (length xs)
place_in_list p d [] = sym (first_none (λ k. p (get_or [] k d)))
place_in_list p d (x ∷ xs) =
    place_turned (p x) (position_or_len p xs) (first (λ k. p (get_or xs k d)) (length xs)) (place_in_list p d xs)
    ∙ sym (first_front (λ k. p (get_or (x ∷ xs) k d)) (length xs))

pub place_or : (m n : ℕ) → m ≤ n → unwrap_or (cond (ltb m n) (Some m) None) n ≡ m
place_or m n l =
    ⊎_elim
    (λ (e : m ≡ n). ap (λ (b : Bool). unwrap_or (cond b (Some m) None) n) (le-ltb m n (omega arith)) ∙ sym e)
    (λ (k : m < n). ap (λ (b : Bool). unwrap_or (cond b (Some m) None) n) (lt-ltb m n k))
    (eq-or-lt_of_le l)

-- `xs.iter().position(p).unwrap_or(n)`
pub position_or_number : (p : ℕ → Bool) (d : ℕ) (xs : List ℕ) (n : ℕ) (r : Option ℕ)
    → r ≡ cond (ltb (position_or_len p xs) (length xs)) (Some (position_or_len p xs)) None → length xs ≡ n
    → unwrap_or r n ≡ first (λ k. p (get_or xs k d)) n
position_or_number p d xs n r h e =
    let m = position_or_len p xs in
    let f : m ≡ first (λ k. p (get_or xs k d)) (length xs) = place_in_list p d xs in
    ap (λ (o : Option ℕ). unwrap_or o n) h
    ∙ ap (λ (k : ℕ). unwrap_or (cond (ltb m k) (Some m) None) n) e
    ∙ place_or m n (rw (sym e, f) (first_le (λ k. p (get_or xs k d)) (length xs)))
    ∙ f ∙ ap (first (λ k. p (get_or xs k d))) e

-- `(0..n).find(p).unwrap_or(n)`
found_step : (p : ℕ → Bool) (a n : ℕ) (o : Option ℕ) (b : Bool) → p (a + 0) ≡ b
    → unwrap_or o (a + 1 + n) ≡ a + 1 + first (λ k. p (a + 1 + k)) n
    → unwrap_or (cond b (Some a) o) (a + suc n) ≡ a + first (λ k. p (a + k)) (suc n)
found_step p a n o true h e = rw (first_there (λ k. p (a + k)) n h) (omega arith)
found_step p a n o false h e =
    ap (unwrap_or o) (omega arith) ∙ e
    ∙ rw (first_behind (λ k. p (a + k)) n h, first_cong (λ k. p (a + 1 + k)) (λ k. p (a + suc k)) n (λ i l. ap p (omega arith))) (omega arith)

found_from : (p : ℕ → Bool) (a n : ℕ) → unwrap_or (find p (range_with_len a n)) (a + n) ≡ a + first (λ k. p (a + k)) n
found_from p a zero = rw (first_none (λ k. p (a + k))) refl
found_from p a (suc n) = found_step p a n (find p (range_with_len (a + 1) n)) (p a) (ap p (omega arith)) (found_from p (a + 1) n)

pub found_or_number : (p : ℕ → Bool) (n : ℕ) (r : Option ℕ) → r ≡ find p (range_with_len 0 n) → unwrap_or r n ≡ first p n
found_or_number p n r h =
    ap (λ (o : Option ℕ). unwrap_or o n) h ∙ ap (unwrap_or (find p (range_with_len 0 n))) (omega arith)
    ∙ found_from p 0 n ∙ rw (first_cong (λ k. p (0 + k)) p n (λ i l. ap p (omega arith))) (omega arith)
