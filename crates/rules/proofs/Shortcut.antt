-- How a closed packet call computes in a moment: test 2's search through 1,024 places is one pass over the table, and it and test 3, which
-- hashes an announce's keys, are decided apart. What the call gives is the rules' own: `quick` says so.
use Prim.Native.Nat.{ℕ, zero, suc, ◌<◌}
use native.Mathlib.Decide.{dec_lt}
use native.Mathlib.Omega.{arith}
use mathlib.Core.Bool.{Bool, true, false, not, cond}
use mathlib.Core.List.{List, [], ◌∷◌}
use mathlib.Core.Path.{◌≡◌, refl, sym, ap, ◌∙◌}
use lib.Dec.{ltb}
use lib.ListN.{length, get_or}
use borrow.Author.Tests.{lt-ltb, le-ltb}
use Rattle.octets.specs.Index.{◌and◌, first}
use Rattle.octets.specs.Choice.{◌then◌otherwise◌, ◌or◌, same}
use Rattle.octets.specs.Listed.{first_of}
use Rattle.octets.proofs.Listed.{told}
use Rattle.numbers.specs.Numbers.{hash_count, live}
use Rattle.rules.specs.Relay.{Slot, empty, used, Relay, holds, lowest}
use Rattle.rules.specs.View.{View, view_at, is_live_hash, hash_place}
use Rattle.rules.specs.Refusals.{packet_refusal}
use Rattle.rules.specs.Arrival.{Arrival, hash}
use Rattle.rules.specs.Exempt.{exempt}
use Rattle.rules.specs.Ways.{way_on}
use Rattle.rules.specs.Tests.{for_marked_path, tested_as_duplicate, duplicate, bad_form}
use Rattle.rules.specs.Judging.{Plan, early_tests, plan, onward_plan, verdict, output_after}
use Rattle.rules.specs.Writes.{remembers_plan, already_live, remembers, write_plan, stamp, enact}
use Rattle.rules.specs.Calls.{counted, Judgement, judged, judge, packet_call}
use Rattle.rules.specs.declared.Answer.TheVariants.{Judged}
use Rattle.rules.specs.declared.Tally.{Tally}
use Rattle.rules.proofs.Passed.{of_test}

-- ---- the first index, looked for from the front
ltb_suc : (m n : ℕ) → ltb (suc m) (suc n) ≡ ltb m n
ltb_suc m n = go (dec_lt m n)
  where
    go : Dec (m < n) → ltb (suc m) (suc n) ≡ ltb m n
    go (yes l) = lt-ltb (suc m) (suc n) (omega arith) ∙ sym (lt-ltb m n l)
    go (no l) = le-ltb (suc m) (suc n) (omega arith) ∙ sym (le-ltb m n (omega arith))

first_front : (p : ℕ → Bool) (n : ℕ) → first p (suc n) ≡ cond (p 0) 0 (suc (first (λ i. p (suc i)) n))
unfolding first
first_front p zero = refl
first_front p (suc n) = rw (first_front p n) (go (p 0) (p (suc n)))
  where
    G : ℕ
    G = first (λ i. p (suc i)) n

    go : (a b : Bool)
        → cond (ltb (cond a 0 (suc G)) (suc n)) (cond a 0 (suc G)) (cond b (suc n) (suc (suc n)))
        ≡ cond a 0 (suc (cond (ltb G n) G (cond b n (suc n))))
    go true b = rw (lt-ltb 0 (suc n) (omega arith))
    go false b = rw (ltb_suc G n) (last (ltb G n) b)
      where
        last : (c b : Bool) → cond c (suc G) (cond b (suc n) (suc (suc n))) ≡ suc (cond c G (cond b n (suc n)))
        last true b = refl
        last false true = refl
        last false false = refl

-- ---- a table's slot that passes, looked for from the front
unfoldable pub passes : {A : Type 0} → (A → Bool) → List (Slot A) → Bool
passes test [] = false
passes test (slot ∷ slots) = holds test slot or passes test slots

lowest_passes : {A : Type 0} (test : A → Bool) (slots : List (Slot A)) → ltb (lowest test (length slots) slots) (length slots) ≡ passes test slots
unfolding lowest passes first ◌or◌
lowest_passes test [] = refl
lowest_passes test (slot ∷ slots) =
    ap (λ (k : ℕ). ltb k (suc (length slots))) (first_front (λ i. holds test (get_or (slot ∷ slots) i empty)) (length slots))
    ∙ go (lowest_passes test slots) (holds test slot)
  where
    go : ltb (lowest test (length slots) slots) (length slots) ≡ passes test slots
        → (a : Bool) → ltb (cond a 0 (suc (lowest test (length slots) slots))) (suc (length slots)) ≡ (a or passes test slots)
    go ih true = lt-ltb 0 (suc (length slots)) (omega arith)
    go ih false = ltb_suc (lowest test (length slots) slots) (length slots) ∙ ih

passes_cong : {A : Type 0} (one two : A → Bool) → ((x : A) → one x ≡ two x) → (slots : List (Slot A)) → passes one slots ≡ passes two slots
unfolding passes holds
passes_cong one two h [] = refl
passes_cong one two h (empty ∷ slots) = ap (λ (b : Bool). false or b) (passes_cong one two h slots)
passes_cong one two h (used x ∷ slots) = rw (h x, passes_cong one two h slots)

and_comm : (a b : Bool) → (a and b) ≡ (b and a)
unfolding ◌and◌
and_comm true true = refl
and_comm true false = refl
and_comm false true = refl
and_comm false false = refl

-- ---- test 2 by one pass over the table. An expired hash isn't compared
pub seen_quick : (clock : ℕ) (r : Relay) (hash : List ℕ) → length r.hashes.slots ≡ hash_count
    → (view_at clock r).remembered hash ≡ passes (λ m. live clock m.expiry and same m.hash hash) r.hashes.slots
unfolding view_at hash_place is_live_hash
seen_quick clock r hash whole =
    ap (λ (k : ℕ). ltb (lowest (is_live_hash clock hash) k r.hashes.slots) k) (sym whole)
    ∙ lowest_passes (is_live_hash clock hash) r.hashes.slots
    ∙ passes_cong (is_live_hash clock hash) _ (λ m. and_comm (same m.hash hash) (live clock m.expiry)) r.hashes.slots

-- ---- a packet of good form, of whose hash it is given whether it is remembered
unfoldable pub good_plan : Bool → View → Arrival → Plan
good_plan seen v a =
    first_of (told (of_test 3) false (told (of_test 2) (tested_as_duplicate v a and seen) (early_tests v a))) (onward_plan v a (way_on v a))

pub plan_good : (v : View) (a : Arrival) {seen : Bool} → v.remembered (hash a) ≡ seen → bad_form a.bytes ≡ false → plan v a ≡ good_plan seen v a
unfolding plan good_plan early_tests told of_test duplicate ◌then◌otherwise◌
plan_good v a s g = rw (s, g)

-- judging an accepted packet by a plan, with what test 2 asks given: an announce that skips it isn't remembered if it is there already
abbrev pub good_judged : Bool → Arrival → Plan → View → Relay → Tally → List ℕ → Judgement
good_judged seen a todo v r t output =
    record {
      answer = Judged (verdict v a todo);
      relay = stamp a (not (exempt a.bytes) and not (for_marked_path v a and seen) and remembers_plan todo) (write_plan v a todo r);
      tally = counted (verdict v a todo) t;
      output = output_after v a todo output;
    }

judged_good : (a : Arrival) (todo : Plan) (v : View) (r : Relay) (t : Tally) (output : List ℕ) {seen : Bool} → v.remembered (hash a) ≡ seen
    → judged a todo v r t output ≡ good_judged seen a todo v r t output
unfolding judged enact remembers already_live
judged_good a todo v r t output s = rw s

-- with both decided apart
unfoldable pub good_judge : Bool → Arrival → Relay → Tally → List ℕ → Judgement
good_judge seen a r t output = good_judged seen a (good_plan seen (view_at a.clock r) a) (view_at a.clock r) r t output

pub quick : (a : Arrival) (r : Relay) (t : Tally) (output : List ℕ) {seen : Bool}
    → packet_refusal r a (length output) ≡ 0
    → (view_at a.clock r).remembered (hash a) ≡ seen
    → bad_form a.bytes ≡ false
    → packet_call a r t output ≡ good_judge seen a r t output
unfolding packet_call judge good_judge ◌then◌otherwise◌
quick a r t output accepted s g =
    let v : View = view_at a.clock r in
    rw accepted (ap (λ (todo : Plan). judged a todo v r t output) (plan_good v a s g) ∙ judged_good a (good_plan _ v a) v r t output s)
