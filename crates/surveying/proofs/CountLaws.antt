-- The counters: one turn of their loop, entry after entry, and the sums that they are while none reaches 2^64.
use Rattle.std.proofs.Common.{◌≡◌, ℕ, ◌+◌, ◌%◌, ◌^◌, ◌<◌, ◌≤◌, List, [], ◌∷◌, ◌++◌, length, get_or, set, sym, refl, ap, ◌∙◌, ap₂, add-zero, mod-eq_of_lt, arith}
use Rattle.octets.specs.Index.{list_of}
use Rattle.octets.proofs.ListOf.{list_of_length, list_of_at, list_of_cong, list_of_get_d, mixed, mixed_at, mixed_more, mixed_all}
use Rattle.surveying.specs.Counts.{Answered, sum_over}
use Rattle.surveying.specs.Promise.{counter_count, counted_at, add_one, add_all}

module _ (counts : List ℕ) (x : Answered) where
  pub added_length : length (add_one counts x) ≡ counter_count
  unfolding add_one
  added_length = list_of_length _ counter_count

  added_at : (k : ℕ) → k < counter_count → get_or (add_one counts x) k 0 ≡ (get_or counts k 0 + counted_at k x) % 2 ^ 64
  unfolding add_one
  added_at k l = list_of_at _ counter_count k 0 l

-- ---- the loop over the counters: at k, the first k have grown
module _ (old : List ℕ) (x : Answered) (long : length old ≡ counter_count) (now : List ℕ) (k : ℕ) (e : now ≡ mixed k (add_one old x) old) where
  same : length (add_one old x) ≡ length old
  same = added_length old x ∙ sym long

  pub one_more_lem : k < counter_count → (value amount : ℕ) → value ≡ (get_or now k 0 + amount) % 2 ^ 64 → amount ≡ counted_at k x
      → set now k value ≡ mixed (k + 1) (add_one old x) old
  one_more_lem l value amount q r =
      let inside : k < length old = omega (arith, long) in
      let at : get_or now k 0 ≡ get_or old k 0 = ap (λ (s : List ℕ). get_or s k 0) e ∙ mixed_at (add_one old x) old same k 0 inside in
      let new : value ≡ get_or (add_one old x) k 0 = q ∙ ap₂ (λ (a b : ℕ). (a + b) % 2 ^ 64) at r ∙ sym (added_at old x k l) in
      ap₂ (λ (s : List ℕ) (v : ℕ). set s k v) e new ∙ mixed_more (add_one old x) old same k 0 inside

  pub all_grown : counter_count ≤ k → now ≡ add_one old x
  all_grown l = e ∙ mixed_all (add_one old x) old same k (omega (arith, long))

-- ---- entry after entry
pub add_append : (xs ys : List Answered) (counts : List ℕ) → add_all counts (xs ++ ys) ≡ add_all (add_all counts xs) ys
unfolding add_all
add_append [] ys counts = refl
add_append (x ∷ xs) ys counts = add_append xs ys (add_one counts x)

pub add_last : (xs : List Answered) (x : Answered) (counts : List ℕ) → add_one (add_all counts xs) x ≡ add_all counts (xs ++ (x ∷ []))
unfolding add_all
add_last xs x counts = sym (add_append xs (x ∷ []) counts)

-- ---- counters that don't reach 2^64 are what they were and a sum
pub exact : (xs : List Answered) (counts : List ℕ) → length counts ≡ counter_count
    → ((k : ℕ) → k < counter_count → get_or counts k 0 + sum_over (counted_at k) xs < 2 ^ 64)
    → add_all counts xs ≡ list_of (λ k. get_or counts k 0 + sum_over (counted_at k) xs) counter_count
unfolding add_all sum_over
exact [] counts long small =
    sym
    (list_of_cong (λ k. get_or counts k 0 + 0) (λ k. get_or counts k 0) counter_count (λ k _. add-zero (get_or counts k 0)) ∙ list_of_get_d 0 counts counter_count long)
exact (x ∷ xs) counts long small =
    let grown : (k : ℕ) → k < counter_count → get_or (add_one counts x) k 0 ≡ get_or counts k 0 + counted_at k x =
    λ k l. added_at counts x k l ∙ mod-eq_of_lt (omega (arith, small k l)) in
    exact xs (add_one counts x) (added_length counts x) (λ k l. omega (arith, grown k l, small k l))
    ∙ list_of_cong _ _ counter_count (λ k l. omega (arith, grown k l))
