-- The bodies' widths: in every edition each stands in two bytes, and together they are all that is saved.
use Prim.Native.Nat.{ℕ, zero, suc, ◌+◌, ◌-◌, ◌*◌, ◌≤◌, ◌<◌}
use native.Mathlib.Decide.{dec_lt}
use native.Mathlib.Omega.{arith}
use mathlib.Core.Bool.{Bool, true}
use mathlib.Core.List.{List, [], ◌∷◌}
use mathlib.Core.Path.{◌≡◌, refl, ap, ◌∙◌}
use lib.Dec.{lit<, ltb}
use lib.ListN.{length, get_or, get_or-eq_default}
use borrow.Author.Tests.{ltb-true, leb-true}
use Rattle.octets.specs.Index.{◌and◌, all_below}
use Rattle.octets.proofs.Index.{and_left, and_right, all_at}
use Rattle.codes.specs.Form.{code}
use Rattle.recording.specs.Shape.{sum_below, length_limit, offset_limit}
use Rattle.recording.proofs.Sums.{sum_within}
use Rattle.numbers.specs.Numbers.{port_count, path_count}
use Rattle.tables.specs.Forms.{Edition}
use Rattle.editions.specs.Editions.{edition1, editions, is_known_by, is_known, numbered, held, edition_at, current_edition, width_at, body_count, bodies_at}
use Rattle.editions.specs.Steps.{start_width, port_width_in, path_width_in, size_in}

pub now_known : is_known current_edition ≡ true
unfolding is_known is_known_by ◌and◌
now_known = refl

-- ---- of any edition
module _ (e : Edition) where
  pub widths_in_lem : sum_below (width_at (held e)) body_count ≡ (code (held e)).width
  unfolding sum_below width_at
  widths_in_lem = omega arith

  pub width_within : (i : ℕ) → i < body_count → sum_below (width_at (held e)) i + width_at (held e) i ≤ (code (held e)).width
  width_within i l = omega (arith, widths_in_lem, sum_within (width_at (held e)) body_count i l)

  pub size_in_lem : bodies_at + (code (held e)).width ≡ size_in e
  size_in_lem = omega arith

  pub width_start : width_at (held e) 0 ≡ start_width e
  unfolding width_at
  width_start = omega arith

  pub width_ports : width_at (held e) 1 ≡ port_width_in e * port_count
  unfolding width_at
  width_ports = omega arith

  pub width_paths : width_at (held e) 3 ≡ path_width_in e * path_count
  unfolding width_at
  width_paths = omega arith

-- ---- of those that there are
-- what a test says of each of them, it says of the edition of any number: behind the last stands the first
edition_says : (test : Edition → Bool) → all_below (λ j. test (get_or editions j edition1)) current_edition ≡ true → (n : ℕ) → test (numbered n) ≡ true
unfolding all_below
edition_says test all n = go (n - 1) (dec_lt (n - 1) current_edition)
  where
    go : (j : ℕ) → Dec (j < current_edition) → test (get_or editions j edition1) ≡ true
    go j (yes l) = all_at (λ k. test (get_or editions k edition1)) current_edition j all l
    go j (no k) =
        rw (get_or-eq_default editions edition1 {n = j} (omega arith))
        (all_at (λ k. test (get_or editions k edition1)) current_edition 0 all (lit< tt))

-- .. and of a number that is known: it is one of theirs, and what a row of the code has for each of them, it has for this one
module _ (n : ℕ) (h : is_known n ≡ true) where
  pub known_low : 0 < n
  unfolding is_known is_known_by
  known_low = ltb-true 0 n (and_left _ _ h)

  pub known_high : n ≤ current_edition
  unfolding is_known is_known_by
  known_high = leb-true n current_edition (and_right _ _ h)

abbrev pub rows_of : {B : Type 0} → (Edition → B) → List Edition → List B
rows_of value [] = []
rows_of value (e ∷ es) = value e ∷ rows_of value es

row_at : {B : Type 0} (value : Edition → B) (es : List Edition) (d : Edition) (v : B) (i : ℕ) → i < length es
    → get_or (rows_of value es) i v ≡ value (get_or es i d)
row_at value [] d v i l = absurd (omega arith)
row_at value (e ∷ es) d v zero l = refl
row_at value (e ∷ es) d v (suc i) l = row_at value es d v i (omega arith)

pub known_row : {B : Type 0} (value : Edition → B) (n : ℕ) → is_known n ≡ true → {rows : List B} → rows ≡ rows_of value editions
    → (v : B) → get_or rows (n - 1) v ≡ value (numbered n)
known_row value n h {rows} e v =
    ap (λ (r : List _). get_or r (n - 1) v) e ∙ row_at value editions edition1 v (n - 1) (omega (arith, known_low n h, known_high n h))

pub width_small : (n i : ℕ) → i < body_count → width_at (edition_at n) i < length_limit
unfolding all_below ◌and◌ width_at
width_small n i l =
    let all = edition_says (λ e. all_below (λ j. ltb (width_at (held e) j) length_limit) body_count) refl n in
    ltb-true (width_at (edition_at n) i) length_limit (all_at (λ j. ltb (width_at (edition_at n) j) length_limit) body_count i all l)

pub size_small : (n : ℕ) → bodies_at + (code (edition_at n)).width < offset_limit
unfolding all_below ◌and◌
size_small n = ltb-true _ _ (edition_says (λ e. ltb (bodies_at + (code (held e)).width) offset_limit) refl n)
