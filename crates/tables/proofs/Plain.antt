-- Four records at once: the laws of `together`, plain records keep row 7, and what is left to test where only ports and times are plain.
use Prim.Native.Nat.{ℕ, zero, suc, ◌+◌, ◌*◌, ◌-◌, ◌%◌, ◌^◌, ◌≤◌, ◌<◌}
use native.Mathlib.Nat.{zero-mod}
use native.Mathlib.Numerals.{add-one}
use native.Mathlib.Omega.{arith}
use mathlib.Core.Bool.{Bool, true, false}
use mathlib.Core.List.{List}
use mathlib.Core.Path.{◌≡◌, refl, sym, ap, ap₂, ◌∙◌}
use lib.Bits.{bit_or, or_mod}
use lib.Dec.{eqb, ltb}
use lib.ListN.{length, get_or}
use lib.Pow.{pow_pos}
use borrow.Author.Tests.{lt-ltb, ltb-true, le-leb, eqb-true, eqb-false}
use Rattle.octets.specs.Bytes.{Bytes}
use Rattle.octets.specs.Index.{◌and◌, all_below}
use Rattle.octets.specs.Choice.{◌or◌}
use Rattle.octets.specs.Part.{part}
use Rattle.octets.specs.BigEndian.{number, word_width}
use Rattle.octets.proofs.Agree.{or_ltb}
use Rattle.octets.proofs.BigEndian.{number_lt}
use Rattle.octets.proofs.Bytes.{part_bytes}
use Rattle.octets.proofs.Index.{and_left, and_right, and_both, all_at, all_both, all_cong}
use Rattle.octets.proofs.Part.{part_at, part_part, part_length, number_part, number_one}
use Rattle.codes.proofs.Many.{many_end}
use Rattle.numbers.specs.Numbers.{port_count, return_count, hash_count, clock_limit}
use Rattle.rules.specs.Refusals.{time_ok, return_ok, hash_ok}
use Rattle.tables.specs.Places.{time_width, return_width, hash_width}
use Rattle.tables.specs.Fields.{return_arrival_at, return_leaving_at, return_expiry_at, hash_expiry_at}
use Rattle.tables.specs.Records.{return_of, return_bytes_ok, hash_of, hash_bytes_ok}
use Rattle.tables.specs.Layout.{record_at, records_ok}
use Rattle.tables.specs.Groups.{together, ways_plain, plain, used_or_zero, Grouped}
use Rattle.tables.specs.Forms.{return_form, hash_form}
use Rattle.tables.proofs.Chunks.{records_kept}
use Rattle.tables.proofs.Tests.{slot_bytes_ok, slot_unused, slot_used, return_test, hash_test, unused}

-- ---- `together`: an OR is tested in place of its numbers
pub together_ltb : (k : ℕ) (f : ℕ → ℕ) (n : ℕ) → ltb (together f n) (2 ^ k) ≡ all_below (λ i. ltb (f i) (2 ^ k)) n
unfolding together all_below
together_ltb k f zero = lt-ltb 0 (2 ^ k) (pow_pos k)
together_ltb k f (suc n) = or_ltb k (together f n) (f n) ∙ ap (λ (b : Bool). b and ltb (f n) (2 ^ k)) (together_ltb k f n)

together_mod : (k : ℕ) (f : ℕ → ℕ) (n : ℕ) → together f n % 2 ^ k ≡ together (λ i. f i % 2 ^ k) n
unfolding together
together_mod k f zero = zero-mod (2 ^ k)
together_mod k f (suc n) = or_mod (together f n) (f n) k ∙ ap (λ (x : ℕ). bit_or x (f n % 2 ^ k)) (together_mod k f n)

together_low : (j k : ℕ) (f : ℕ → ℕ) (n : ℕ) → ltb (together f n % 2 ^ j) (2 ^ k) ≡ all_below (λ i. ltb (f i % 2 ^ j) (2 ^ k)) n
together_low j k f n = ap (λ (x : ℕ). ltb x (2 ^ k)) (together_mod j f n) ∙ together_ltb k (λ i. f i % 2 ^ j) n

pub together_plain : (f : ℕ → ℕ) (n : ℕ) → ways_plain (together f n) ≡ all_below (λ i. ways_plain (f i)) n
unfolding ways_plain
together_plain f n =
    let a : ℕ → Bool = λ i. ltb (f i) (2 ^ 60) in
    let b : ℕ → Bool = λ i. ltb (f i % 2 ^ 56) (2 ^ 52) in
    let c : ℕ → Bool = λ i. ltb (f i % 2 ^ 48) (2 ^ 24) in
    ap₂ (λ (p q : Bool). p and q) (together_ltb 60 f n) (ap₂ (λ (p q : Bool). p and q) (together_low 56 52 f n) (together_low 48 24 f n))
    ∙ sym (all_both a (λ i. b i and c i) n ∙ ap (λ (q : Bool). all_below a n and q) (all_both b c n))

-- the numbers one after the other: the one of index k is x, read at its place
module _ (t : List ℕ) (at w : ℕ) where
  abbrev pub number_of : ℕ → ℕ
  number_of k = number (part t (at + w * k) word_width)

  pub none_together : 0 ≡ together number_of 0
  unfolding together
  none_together = refl

  pub one_together : (k : ℕ) {place x before : ℕ} → place ≡ at + w * k → x ≡ number (part t place word_width)
      → before ≡ together number_of k → bit_or before x ≡ together number_of (k + 1)
  unfolding together
  one_together k there read h = rw (add-one, read, there, h)

-- ---- the marks and the numbers of n records, one after the other
module _ (p : ℕ → Bool) (a w n : ℕ) (t : List ℕ) (fits : a + word_width ≤ w) where
  field : (k : ℕ) → number (part (record_at 0 w t k) a word_width) ≡ number (part t (a + w * k) word_width)
  field k = ap number (part_part t (0 + w * k) w a word_width fits ∙ ap (λ (i : ℕ). part t i word_width) (omega arith))

  pub plain_apart : records_ok (plain a p) 0 w n t
      ≡ (all_below (λ k. eqb (get_or t (w * k) 0) 1) n and all_below (λ k. p (number (part t (a + w * k) word_width))) n)
  unfolding records_ok plain
  plain_apart =
      all_cong (λ k. plain a p (record_at 0 w t k)) (λ k. eqb (get_or t (w * k) 0) 1 and p (number (part t (a + w * k) word_width))) n
      (λ k l. ap₂ (λ (x y : ℕ). eqb x 1 and p y)
      (part_at t (0 + w * k) w 0 (omega arith) ∙ ap (λ (i : ℕ). get_or t i 0) (omega arith)) (field k))
      ∙ all_both (λ k. eqb (get_or t (w * k) 0) 1) (λ k. p (number (part t (a + w * k) word_width))) n

  -- where the numbers of n records pass, a test that is equal to `ok` on such a record takes its place
  pub records_left : (ok left : List ℕ → Bool)
      → ((k : ℕ) → k < n → p (number (part (record_at 0 w t k) a word_width)) ≡ true → ok (record_at 0 w t k) ≡ left (record_at 0 w t k))
      → all_below (λ k. p (number (part t (a + w * k) word_width))) n ≡ true → records_ok left 0 w n t ≡ records_ok ok 0 w n t
  unfolding records_ok
  records_left ok left same h =
      all_cong (λ k. left (record_at 0 w t k)) (λ k. ok (record_at 0 w t k)) n
      (λ k l. sym (same k l (ap p (field k) ∙ all_at (λ j. p (number (part t (a + w * j) word_width))) n k h l)))

-- ---- plain records keep row 7
time_plain : (x : ℕ) → x < clock_limit → time_ok x ≡ true
unfolding time_ok
time_plain x h = le-leb x _ (omega arith)

-- where its clauses hold, used or not, a record's mark and zeros are left to test
used_left : (ok : List ℕ → Bool) (b : List ℕ) → 0 < length b → ok b ≡ true → slot_bytes_ok (length b) ok b ≡ used_or_zero b
unfolding used_or_zero ◌or◌
used_left ok b l fine = go (eqb (get_or b 0 0) 1) refl
  where
    go : (m : Bool) → eqb (get_or b 0 0) 1 ≡ m → slot_bytes_ok (length b) ok b ≡ used_or_zero b
    go true q = rw q (slot_used (length b) ok b (eqb-true _ _ q) ∙ fine)
    go false q = rw q (slot_unused (length b) ok b l (eqb-false _ _ q))

pub hash_left : (b : List ℕ) → length b ≡ hash_width → ltb (number (part b hash_expiry_at time_width)) clock_limit ≡ true → hash_bytes_ok b ≡ used_or_zero b
unfolding hash_ok hash_of
hash_left b size h =
    hash_test b ∙ ap (λ (w : ℕ). slot_bytes_ok w (λ s. hash_ok (hash_of s)) b) (sym size)
    ∙ used_left (λ s. hash_ok (hash_of s)) b (omega arith) (time_plain _ (ltb-true _ _ h))

module _ (b : List ℕ) (bytes : Bytes b) (size : length b ≡ return_width) where
  below : (a n : ℕ) → a + n ≤ length b → number (part b a n) < 256 ^ n
  below a n l = number_lt (part b a n) n (part_bytes b a n bytes) (part_length b a n l)

  -- of the word that starts with the arrival port: what is behind it, and behind the leaving port, which is the expiry but for its last bytes
  abbrev behind_arrival : ℕ
  behind_arrival = word_width - 1

  abbrev expiry_seen : ℕ
  expiry_seen = behind_arrival - 1

  abbrev expiry_rest : ℕ
  expiry_rest = time_width - expiry_seen

  ways : ways_plain (number (part b return_arrival_at word_width)) ≡ true → return_ok (return_of b) ≡ true
  unfolding ways_plain return_ok return_of
  ways h =
      let x : ℕ = number (part b return_arrival_at word_width) in
      let first : number (part b return_arrival_at word_width) ≡ get_or b return_arrival_at 0 * 256 ^ behind_arrival + number (part b return_leaving_at behind_arrival) =
      number_part b return_arrival_at 1 behind_arrival (omega arith)
      ∙ ap (λ (k : ℕ). k * 256 ^ behind_arrival + number (part b return_leaving_at behind_arrival)) (number_one b return_arrival_at (omega arith)) in
      let second : number (part b return_leaving_at behind_arrival) ≡ get_or b return_leaving_at 0 * 256 ^ expiry_seen + number (part b return_expiry_at expiry_seen) =
      number_part b return_leaving_at 1 expiry_seen (omega arith)
      ∙ ap (λ (k : ℕ). k * 256 ^ expiry_seen + number (part b return_expiry_at expiry_seen)) (number_one b return_leaving_at (omega arith)) in
      let third : number (part b return_expiry_at time_width)
      ≡ number (part b return_expiry_at expiry_seen) * 256 ^ expiry_rest + number (part b (return_expiry_at + expiry_seen) expiry_rest) =
      number_part b return_expiry_at expiry_seen expiry_rest (omega arith) in
      let l1 : x < 2 ^ 60 = ltb-true _ _ (and_left _ _ h) in
      let l2 : x % 2 ^ 56 < 2 ^ 52 = ltb-true _ _ (and_left _ _ (and_right _ _ h)) in
      let l3 : x % 2 ^ 48 < 2 ^ 24 = ltb-true _ _ (and_right _ _ (and_right _ _ h)) in
      let s1 = below return_leaving_at behind_arrival (omega arith) in
      let s2 = below return_expiry_at expiry_seen (omega arith) in
      let s3 = below (return_expiry_at + expiry_seen) expiry_rest (omega arith) in
      let arrival : get_or b return_arrival_at 0 < port_count = omega arith in
      let leaving : get_or b return_leaving_at 0 < port_count = omega arith in
      let expiry : number (part b return_expiry_at time_width) < clock_limit = omega arith in
      and_both (lt-ltb _ _ arrival) (and_both (lt-ltb _ _ leaving) (time_plain _ expiry))

  pub return_left : ways_plain (number (part b return_arrival_at word_width)) ≡ true → return_bytes_ok b ≡ used_or_zero b
  return_left h =
      return_test b ∙ ap (λ (w : ℕ). slot_bytes_ok w (λ s. return_ok (return_of s)) b) (sym size)
      ∙ used_left (λ s. return_ok (return_of s)) b (omega arith) (ways h)

-- ---- n records of a ring
module _ {count w at from : ℕ} {fine : List ℕ → Bool} {small : ℕ → Bool} (ring : Grouped count w at from fine small)
    (n : ℕ) (t : List ℕ) (bytes : Bytes t) (long : length t ≡ w * n) where
  left_of : (k : ℕ) → k < n → small (number (part (record_at 0 w t k) at word_width)) ≡ true → fine (record_at 0 w t k) ≡ used_or_zero (record_at 0 w t k)
  left_of k l =
      ring.left (record_at 0 w t k) (part_bytes t (0 + w * k) w bytes) (part_length t (0 + w * k) w (omega (arith, long, many_end w n k l)))

  -- where the numbers of all are small, a test of mark and zeros takes the place of row 7
  pub small_left : all_below (λ k. small (number (part t (at + w * k) word_width))) n ≡ true → records_ok used_or_zero 0 w n t ≡ records_ok fine 0 w n t
  small_left h = records_left small at w n t ring.within fine used_or_zero left_of h

  -- plain ones keep row 7
  pub plain_fine : records_ok (plain at small) 0 w n t ≡ true → records_ok fine 0 w n t ≡ true
  unfolding plain used_or_zero ◌or◌
  plain_fine = records_kept (plain at small) fine w n t (λ k l h. left_of k l (and_right _ _ h) ∙ rw (and_left _ _ h))

-- ---- both rings
pub returns_grouped : (from : ℕ) → from ≤ 16 → Grouped return_count return_width return_arrival_at from return_bytes_ok ways_plain
unfolding return_bytes_ok
returns_grouped from near = record {
  whole = refl;
  few = omega arith;
  wide = omega arith;
  narrow = omega arith;
  within = omega arith;
  near = near;
  unused = unused return_form;
  at_once = together_plain;
  left = λ b bytes size h. return_left b bytes size h;
}

pub hashes_grouped : (from : ℕ) → from ≤ 16 → Grouped hash_count hash_width hash_expiry_at from hash_bytes_ok (λ x. ltb x clock_limit)
unfolding hash_bytes_ok
hashes_grouped from near = record {
  whole = refl;
  few = omega arith;
  wide = omega arith;
  narrow = omega arith;
  within = omega arith;
  near = near;
  unused = unused hash_form;
  at_once = together_ltb 40;
  left = λ b bytes size h. hash_left b size h;
}
