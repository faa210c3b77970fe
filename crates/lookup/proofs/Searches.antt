-- A search through records of one width: as its loop goes, and as the rules see it.
use Prim.Native.Nat.{ℕ, zero, suc, ◌+◌, ◌-◌, ◌*◌, ◌/◌, ◌≤◌, ◌<◌}
use native.Mathlib.Nat.{add-zero, add-suc, mul-add, mul_assoc}
use native.Mathlib.Numerals.{add-one}
use native.Mathlib.Omega.{arith}
use Rattle.std.proofs.Math.Nat.{mul-le-mul_left}
use mathlib.Core.Bool.{Bool, true, false, cond, not}
use mathlib.Core.List.{List}
use mathlib.Core.Path.{◌≡◌, refl, sym, ap, subst, ◌∙◌}
use Rattle.std.specs.Prelude.{Option, Some, None}
use lib.Dec.{eqb, ltb}
use lib.ListN.{length, take, drop, get_or, length-take, length-drop}
use borrow.Author.Tests.{eqb-false, not-true, not-false, lt-ltb, le-ltb, ltb-true, ltb-false}
use Rattle.octets.specs.Index.{◌and◌, all_below, first}
use Rattle.octets.specs.Choice.{◌then◌otherwise◌, same}
use Rattle.octets.specs.Part.{part}
use Rattle.octets.specs.BigEndian.{number, word, word_width}
use Rattle.octets.proofs.Part.{part_part}
use Rattle.octets.proofs.Choice.{ne_same}
use Rattle.octets.proofs.Index.{and_left, and_right, and_no, and_false, and_assoc, first_none, first_more, first_le, first_before, first_cong}
use Rattle.codes.proofs.Many.{many_end}
use Rattle.numbers.specs.Numbers.{live}
use Rattle.rules.specs.Relay.{holds, free, lowest, lowest_free}
use Rattle.tables.specs.Places.{time_width}
use Rattle.tables.specs.Records.{slot_of}
use Rattle.tables.specs.Layout.{record_at, records}
use Rattle.tables.proofs.Seen.{lowest_seen, free_seen}
use Rattle.tables.proofs.Chunks.{is_part}
use Rattle.lookup.specs.Search.{last_word, none_is, is_used, has_key, is_live_of, lowest_record, fours_before, found}
use Rattle.lookup.proofs.Found.{found_some, found_none, some_found, none_found}

-- ---- within a part
pub lowest_of_part : (test : List ℕ → Bool) (at width n : ℕ) (t : List ℕ)
    → lowest_record test 0 width n (part t at (width * n)) ≡ lowest_record test at width n t
unfolding lowest_record
lowest_of_part test at width n t =
    first_cong _ _ n
    (λ k l. ap test
    (part_part t at (width * n) (0 + width * k) width (omega (arith, many_end width n k l)) ∙ ap (λ (a : ℕ). part t a width) (omega arith)))

-- the place that a chain over the chunks xs found
pub seen_in : (test : List ℕ → Bool) (at width n : ℕ) (t : List ℕ) {xs : List ℕ} {k : ℕ} → k ≡ first (λ i. test (record_at 0 width xs i)) n
    → xs ≡ part t at (width * n) → k ≡ lowest_record test at width n t
unfolding lowest_record
seen_in test at width n t e bytes =
    e ∙ ap (λ (ys : List ℕ). first (λ i. test (record_at 0 width ys i)) n) bytes ∙ lowest_of_part test at width n t

-- what a chain that ends in `position` gives
pub as_found : (n : ℕ) {r : Option ℕ} {m k : ℕ} → r ≡ cond (ltb m n) (Some m) None → m ≡ k → r ≡ found n k
unfolding found ◌then◌otherwise◌
as_found n {r} {m} e q = e ∙ go (ltb m n) ∙ ap (found n) q
  where
    go : (b : Bool) → cond b (Some m) None ≡ (b then Some m otherwise None)
    go true = refl
    go false = refl

-- ---- one record after the other
module _ (test : List ℕ → Bool) (at width : ℕ) (t : List ℕ) where
  pub none_yet : lowest_record test at width 0 t ≡ 0
  unfolding lowest_record
  none_yet = first_none (λ k. test (record_at at width t k))

  -- the bytes b of record i, and what the test says of them
  module _ (i : ℕ) {b : List ℕ} {r : Bool} (row : b ≡ record_at at width t i) (e : r ≡ test b) where
    seen : test (record_at at width t i) ≡ r
    seen = sym (e ∙ ap test row)

    pub not_here : r ≡ false → lowest_record test at width i t ≡ i → lowest_record test at width (i + 1) t ≡ i + 1
    unfolding lowest_record
    not_here q h = first_more (λ k. test (record_at at width t k)) i h (seen ∙ q)

-- ---- in runs: i records that don't pass the test, and n behind them, of which the lowest that does is k
first_plus : (p : ℕ → Bool) (m n : ℕ) → first p m ≡ m → first p (m + n) ≡ m + first (λ j. p (m + j)) n
unfolding first
first_plus p m zero h = rw (add-zero) h
first_plus p m (suc n) h = go (first_plus p m n h) (ltb rest n) refl (p (m + n)) refl
  where
    rest : ℕ
    rest = first (λ j. p (m + j)) n

    go : first p (m + n) ≡ m + rest → (a : Bool) → ltb rest n ≡ a → (b : Bool) → p (m + n) ≡ b
        → first p (m + suc n) ≡ m + first (λ j. p (m + j)) (suc n)
    go ih true ea b eb = rw (add-suc, ih, ea, lt-ltb (m + rest) (m + n) (omega (arith, ltb-true rest n ea)))
    go ih false ea true eb = rw (add-suc, ih, ea, eb, le-ltb (m + rest) (m + n) (omega (arith, ltb-false rest n ea)))
    go ih false ea false eb = rw (add-suc, ih, ea, eb, le-ltb (m + rest) (m + n) (omega (arith, ltb-false rest n ea)), add-suc)

module _ (test : List ℕ → Bool) (at width : ℕ) (t : List ℕ) (i n : ℕ) {from : ℕ} (stands : from ≡ at + width * i)
    (none : lowest_record test at width i t ≡ i) {k : ℕ} (e : k ≡ lowest_record test from width n t) where
  pub within_run : k ≤ n
  unfolding lowest_record
  within_run = subst (λ (x : ℕ). x ≤ n) (sym e) (first_le (λ j. test (record_at from width t j)) n)

  pub runs : lowest_record test at width (i + n) t ≡ i + k
  unfolding lowest_record
  runs =
      first_plus (λ x. test (record_at at width t x)) i n none
      ∙ ap (λ (x : ℕ). i + x) (first_cong _ _ n (λ j l. ap (λ (x : ℕ). test (part t x width)) (omega (arith, mul-add width i j))) ∙ sym e)

  pub run_passed : n ≤ k → lowest_record test at width (i + n) t ≡ i + n
  run_passed l = runs ∙ omega (arith, within_run)

-- ---- whole fours of n records
pub fours_within : (w n : ℕ) → w * 4 * (n / 4) ≤ w * n
fours_within w n = subst (λ (k : ℕ). k ≤ w * n) (sym (mul_assoc w 4 (n / 4))) (mul-le-mul_left w (omega arith))

-- ---- fours that one test of all four passes by
module _ (test four : List ℕ → Bool) (width : ℕ) (t : List ℕ) (none : (j : ℕ) → four (record_at 0 (width * 4) t j) ≡ false
    → lowest_record test 0 width 4 (record_at 0 (width * 4) t j) ≡ 4) where
  fours_passed : (m : ℕ) → ((j : ℕ) → j < m → four (record_at 0 (width * 4) t j) ≡ false) → lowest_record test 0 width (m * 4) t ≡ m * 4
  fours_passed zero h = none_yet test 0 width t
  fours_passed (suc m) h =
      let from : ℕ = 0 + width * 4 * m in
      let stands : from ≡ 0 + width * (m * 4) = ap (λ (n : ℕ). 0 + n) (mul_assoc width 4 m ∙ ap (λ (n : ℕ). width * n) (omega arith)) in
      let more : suc m * 4 ≡ m * 4 + 4 = omega arith in
      ap (λ (n : ℕ). lowest_record test 0 width n t) more
      ∙ run_passed test 0 width t (m * 4) 4 stands (fours_passed m (λ j l. h j (omega arith)))
      (sym (none m (h m (omega arith))) ∙ lowest_of_part test from width 4 t) (omega arith)
      ∙ sym more

  -- m fours of the n records, behind which the first that passes is k
  module _ (at n : ℕ) (tables : List ℕ) (bytes : t ≡ part tables at (width * n)) (long : length t ≡ width * n)
      {m : ℕ} (passed : m ≡ fours_before four width (n / 4) t) where
    at_most : m ≤ n / 4
    at_most = subst (λ (k : ℕ). k ≤ n / 4) (sym passed) (first_le (λ g. four (record_at 0 (width * 4) t g)) (n / 4))

    pub no_more : m * 4 ≤ n
    no_more = omega (arith, at_most)

    pub passed_within : width * (m * 4) ≤ width * n
    passed_within = mul-le-mul_left width no_more

    behind : length t - width * (m * 4) ≡ width * (n - m * 4)
    behind =
        let all : m * 4 + (n - m * 4) ≡ n = omega (arith, no_more) in
        omega (arith, long, mul-add width (m * 4) (n - m * 4), ap (λ (k : ℕ). width * k) all)

    pub long_behind : length (take (length t - width * (m * 4)) (drop (width * (m * 4)) t)) ≡ width * (n - m * 4)
    long_behind =
        let rest : List ℕ = drop (width * (m * 4)) t in
        omega (arith, length-take (length t - width * (m * 4)) rest, length-drop (width * (m * 4)) t, behind)

    found_behind : {k : ℕ}
        → k ≡ first (λ i. test (record_at 0 width (take (length t - width * (m * 4)) (drop (width * (m * 4)) t)) i)) (n - m * 4)
        → m * 4 + k ≡ lowest_record test at width n tables
    found_behind e =
        let front = fours_passed m
        (λ j l. first_before (λ g. four (record_at 0 (width * 4) t g)) (n / 4) j (subst (λ (k : ℕ). j < k) passed l)) in
        let here = seen_in test (width * (m * 4)) width (n - m * 4) t e
        (is_part (length t - width * (m * 4)) (width * (m * 4)) t ∙ ap (part t (width * (m * 4))) behind) in
        let all : m * 4 + (n - m * 4) ≡ n = omega (arith, no_more) in
        sym (runs test 0 width t (m * 4) (n - m * 4) (omega arith) front here)
        ∙ ap (λ (k : ℕ). lowest_record test 0 width k t) all
        ∙ ap (λ (ys : List ℕ). lowest_record test 0 width n ys) bytes
        ∙ lowest_of_part test at width n tables

    -- what the search of those behind answers
    abbrev answered : Option ℕ
    answered =
        let xs : List ℕ = take (length t - width * (m * 4)) (drop (width * (m * 4)) t) in
        found (n - m * 4) (first (λ i. test (record_at 0 width xs i)) (n - m * 4))

    pub one_behind : {k : ℕ} → Some k ≡ answered → Some (m * 4 + k) ≡ found n (lowest_record test at width n tables)
    one_behind e = let (same, l) = found_some e in some_found (omega arith) (found_behind same)

    pub none_behind : None ≡ answered → None ≡ found n (lowest_record test at width n tables)
    none_behind e =
        let xs : List ℕ = take (length t - width * (m * 4)) (drop (width * (m * 4)) t) in
        let last : n - m * 4 ≡ first (λ i. test (record_at 0 width xs i)) (n - m * 4) =
        omega (arith, found_none e, first_le (λ i. test (record_at 0 width xs i)) (n - m * 4)) in
        none_found (omega (arith, no_more, found_behind last))

pub lowest_cong : (p q : List ℕ → Bool) (at width n : ℕ) (t : List ℕ) → ((b : List ℕ) → p b ≡ q b)
    → lowest_record p at width n t ≡ lowest_record q at width n t
unfolding lowest_record
lowest_cong p q at width n t each = first_cong _ _ n (λ i l. each (record_at at width t i))

-- ---- the last eight bytes first, for keys of any width: where those of a record are not the key's, it is not of the key
pub other_word : (key b : List ℕ) (expiry clock : ℕ) → word_width ≤ length key
    → (word (part b (1 + (length key - word_width)) word_width) ≡ last_word key → ⊥) → false ≡ is_live_of key expiry clock b
unfolding is_live_of has_key last_word
other_word key b expiry clock l ne =
    let tail : ℕ = length key - word_width in
    let other : same (part b 1 (length key)) key ≡ false =
    ne_same (part b 1 (length key)) key
    (λ q. ne (ap word (sym (part_part b 1 (length key) tail word_width (omega arith)) ∙ ap (λ (x : List ℕ). part x tail word_width) q))) in
    sym (and_no (live clock (number (part b expiry time_width))) (ap (is_used b and◌) other ∙ and_false (is_used b)))

-- n records, of which none has the key's last eight bytes, are not of the key
module _ (key : List ℕ) (expiry clock at width : ℕ) (t : List ℕ) (wide : 1 + length key ≤ width) where
  pub others : (n tail : ℕ) → tail + word_width ≡ length key → none_is (last_word key) (at + 1 + tail) width n t ≡ true
      → lowest_record (is_live_of key expiry clock) at width n t ≡ n
  unfolding none_is all_below
  others zero tail e h = none_yet (is_live_of key expiry clock) at width t
  others (suc n) tail e h =
      let place : at + width * n + (1 + (length key - word_width)) ≡ at + 1 + tail + width * n = omega arith in
      let b : List ℕ = record_at at width t n in
      let differs : word (part b (1 + (length key - word_width)) word_width) ≡ last_word key → ⊥ =
      λ q. eqb-false _ _ (not-true _ (and_right _ _ h))
      (ap (λ (k : ℕ). word (part t k word_width)) (sym place)
      ∙ ap word (sym (part_part t (at + width * n) width (1 + (length key - word_width)) word_width (omega arith))) ∙ q) in
      rw (← add-one)
      (not_here (is_live_of key expiry clock) at width t n refl (other_word key b expiry clock (omega arith) differs) refl (others n tail e (and_left _ _ h)))

-- the same of four, as the code tests them
pub others_four : (key : List ℕ) (expiry clock width : ℕ) (four : List ℕ) (last : ℕ) → 1 + length key ≤ width → word_width ≤ length key → last ≡ last_word key
    → not (none_is last (1 + (length key - word_width)) width 4 four) ≡ false → lowest_record (is_live_of key expiry clock) 0 width 4 four ≡ 4
others_four key expiry clock width four last wide long e h =
    let tail : ℕ = length key - word_width in
    let place : 0 + 1 + tail ≡ 1 + tail = omega arith in
    let last_is : last_word key ≡ last = sym e in
    others key expiry clock 0 width four wide 4 tail (omega arith)
    ((λ i. none_is (last_is i) (place i) width 4 four) ∙ not-false _ h)

-- ---- the rules' searches
module _ {A : Type 0} (test : A → Bool) (read : List ℕ → A) where
  slot_holds : (b : List ℕ) → holds test (slot_of read b) ≡ (is_used b and test (read b))
  unfolding holds slot_of ◌then◌otherwise◌ is_used ◌and◌
  slot_holds b = go (eqb (get_or b 0 0) 0) refl
    where
      go : (m : Bool) → eqb (get_or b 0 0) 0 ≡ m → holds test (slot_of read b) ≡ (is_used b and test (read b))
      go true q = rw q
      go false q = rw q

  module _ (at width n : ℕ) (t : List ℕ) where
    pub lowest_used : lowest test n (records (slot_of read) at width n t) ≡ lowest_record (λ b. is_used b and test (read b)) at width n t
    unfolding lowest_record
    lowest_used = lowest_seen (slot_of read) at width n t test ∙ first_cong _ _ n (λ i l. slot_holds (record_at at width t i))

    pub lowest_free_lem : lowest_free test n (records (slot_of read) at width n t) ≡ lowest_record (λ b. not (is_used b and test (read b))) at width n t
    unfolding lowest_record free
    lowest_free_lem = free_seen (slot_of read) at width n t test ∙ first_cong _ _ n (λ i l. ap not (slot_holds (record_at at width t i)))

    -- a record whose key of k bytes stands behind its mark, and whose expiry stands at e
    pub lowest_live : (k : ℕ) (key : List ℕ) (e clock : ℕ) → length key ≡ k
        → ((b : List ℕ) → (same (part b 1 k) key and live clock (number (part b e time_width))) ≡ test (read b))
        → lowest_record (is_live_of key e clock) at width n t ≡ lowest test n (records (slot_of read) at width n t)
    unfolding is_live_of has_key
    lowest_live k key e clock wide fields =
        lowest_cong _ _ at width n t
        (λ b. and_assoc (is_used b) (same (part b 1 (length key)) key) (live clock (number (part b e time_width)))
        ∙ ap (is_used b and◌) (ap (λ (m : ℕ). same (part b 1 m) key and live clock (number (part b e time_width))) wide ∙ fields b))
        ∙ sym lowest_used
