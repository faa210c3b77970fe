-- The laws of numbers in digits, in any base from 2 to 16: one digit and one more, the length, and the number read back.
use Prim.Native.Nat.{ℕ, zero, suc, ◌+◌, ◌-◌, ◌*◌, ◌/◌, ◌%◌, ◌^◌, ◌≤◌, ◌<◌}
use native.Mathlib.Nat.{mod-lt, div-lt_self, div-lt_iff_lt-mul, le-div_iff_mul-le, div-add-mod', pow-suc, pow-zero}
use native.Mathlib.Numerals.{add-one}
use native.Mathlib.Omega.{arith}
use mathlib.Core.Bool.{Bool, true, false}
use mathlib.Core.List.Memᴰ
use mathlib.Core.List.{List, [], ◌∷◌, ◌++◌, append_assoc, map, map-append, Memᴰ}
use mathlib.Core.Logic.{⊎_elim}
use mathlib.Core.Path.{◌≡◌, refl, sym, ap, ap₂, subst, ◌∙◌}
use lib.Dec.{ltb, lit≤}
use lib.ListN.{length, get_or, take, drop, set, length-append, get_or-append}
use lib.Seq.{take-suc, take_at, drop_at}
use borrow.Author.Tests.{lt-ltb, le-ltb, ltb-true, ltb-false}
use Rattle.octets.specs.BigEndian.{number_from}
use Rattle.octets.proofs.BigEndian.{number_from_snoc}
use Rattle.octets.proofs.ListOf.{drop_set}
use Rattle.octets.specs.Bytes.{Bytes}
use Rattle.octets.specs.Part.{joined}
use Rattle.octets.specs.Choice.{◌then◌otherwise◌}
use Rattle.octets.proofs.Choice.{then_true, then_false}
use Rattle.octets.proofs.Joined.{joined_append, joined_one, joined_length}
use Rattle.text.specs.Numerals.{digit, numeral_within, numeral, hexadecimal_byte, hexadecimal, byte_digits}

-- ---- digits
module _ (n : ℕ) where
  pub digit_low : n < 10 → 48 + n ≡ digit n
  unfolding digit
  digit_low l = sym (then_true (48 + n) (87 + n) (lt-ltb n 10 l))

  pub digit_high : 10 ≤ n → 87 + n ≡ digit n
  unfolding digit
  digit_high l = sym (then_false (48 + n) (87 + n) (le-ltb n 10 l))

some_digit : (n : ℕ) → 0 < n → digit n ≡ digit 0 → ⊥
some_digit n some e = go (ltb n 10) refl
  where
    go : (b : Bool) → ltb n 10 ≡ b → ⊥
    go true q = omega (arith, digit_low n (ltb-true n 10 q), digit_low 0 (lit≤ tt))
    go false q = omega (arith, digit_high n (ltb-false n 10 q), digit_low 0 (lit≤ tt))

-- the number of a digit's character
unfoldable pub digit_value : ℕ → ℕ
digit_value c = ltb c 97 then c - 48 otherwise c - 87

digit_value_lem : (n : ℕ) → n < 16 → digit_value (digit n) ≡ n
unfolding digit_value
digit_value_lem n l = go (ltb n 10) refl
  where
    go : (b : Bool) → ltb n 10 ≡ b → digit_value (digit n) ≡ n
    go true e =
        let low : digit n ≡ 48 + n = sym (digit_low n (ltb-true n 10 e)) in
        let h : n < 10 = ltb-true n 10 e in
        ap digit_value low ∙ then_true (48 + n - 48) (48 + n - 87) (lt-ltb (48 + n) 97 (omega arith)) ∙ omega arith
    go false e =
        let high : digit n ≡ 87 + n = sym (digit_high n (ltb-false n 10 e)) in
        let h : 10 ≤ n = ltb-false n 10 e in
        ap digit_value high ∙ then_false (87 + n - 48) (87 + n - 87) (le-ltb (87 + n) 97 (omega arith)) ∙ omega arith

-- the number that a text writes in a base
unfoldable pub value : ℕ → List ℕ → ℕ
value base text = number_from base 0 (map digit_value text)

value_one : (base c : ℕ) → value base (c ∷ []) ≡ digit_value c
unfolding value number_from
value_one base c = omega arith

value_more : (base : ℕ) (text : List ℕ) (c : ℕ) → value base (text ++ (c ∷ [])) ≡ value base text * base + digit_value c
unfolding value
value_more base text c =
    ap (number_from base 0) (map-append digit_value text (c ∷ [])) ∙ number_from_snoc base (map digit_value text) 0 (digit_value c)

-- ---- the digits of a number
module _ (base : ℕ) (two : 2 ≤ base) where
  fewer : (x : ℕ) → base ≤ x → x / base < x
  fewer x l = div-lt_self (omega arith) two

  within_one : (left x : ℕ) → x < base → numeral_within base left x ≡ digit x ∷ []
  unfolding numeral_within
  within_one zero x l = refl
  within_one (suc left) x l = then_true _ _ (lt-ltb x base l)

  within_more : (left x : ℕ) → base ≤ x → numeral_within base (suc left) x ≡ numeral_within base left (x / base) ++ (digit (x % base) ∷ [])
  unfolding numeral_within
  within_more left x l = then_false _ _ (le-ltb x base l)

  -- however much is left, where it is x at least
  within_same : (m n x : ℕ) → x ≤ m → x ≤ n → numeral_within base m x ≡ numeral_within base n x
  unfolding numeral_within
  within_same zero n x hm hn = sym (within_one n x (omega arith))
  within_same (suc m) zero x hm hn = within_one (suc m) x (omega arith)
  within_same (suc m) (suc n) x hm hn = go (within_same m n (x / base)) (ltb x base) refl
    where
      go : (x / base ≤ m → x / base ≤ n → numeral_within base m (x / base) ≡ numeral_within base n (x / base))
          → (b : Bool) → ltb x base ≡ b → numeral_within base (suc m) x ≡ numeral_within base (suc n) x
      go below true e = within_one (suc m) x (ltb-true x base e) ∙ sym (within_one (suc n) x (ltb-true x base e))
      go below false e =
          let l : base ≤ x = ltb-false x base e in
          let less : x / base < x = fewer x l in
          within_more m x l
          ∙ ap (λ (r : List ℕ). r ++ (digit (x % base) ∷ [])) (below (omega arith) (omega arith))
          ∙ sym (within_more n x l)

  pub numeral_one : (x : ℕ) → x < base → numeral base x ≡ digit x ∷ []
  unfolding numeral
  numeral_one x l = within_one x x l

  pub numeral_more : (x : ℕ) → base ≤ x → numeral base x ≡ numeral base (x / base) ++ (digit (x % base) ∷ [])
  unfolding numeral
  numeral_more zero l = absurd (omega arith)
  numeral_more (suc x) l =
      let less : suc x / base < suc x = fewer (suc x) l in
      within_more x (suc x) l
      ∙ ap (λ (r : List ℕ). r ++ (digit (suc x % base) ∷ [])) (within_same x (suc x / base) (suc x / base) (omega arith) (omega arith))

  -- what holds of one digit, and of one digit more, holds of every number
  by_digits : (P : ℕ → List ℕ → Type 0) → ((x : ℕ) → x < base → P x (digit x ∷ []))
      → ((x : ℕ) → base ≤ x → P (x / base) (numeral base (x / base)) → P x (numeral base (x / base) ++ (digit (x % base) ∷ [])))
      → (x : ℕ) → P x (numeral base x)
  by_digits P one more x = all x x (omega arith)
    where
      all : (m y : ℕ) → y ≤ m → P y (numeral base y)
      all zero y h = subst (P y) (sym (numeral_one y (omega arith))) (one y (omega arith))
      all (suc m) y h = go (all m (y / base)) (ltb y base) refl
        where
          go : (y / base ≤ m → P (y / base) (numeral base (y / base))) → (b : Bool) → ltb y base ≡ b → P y (numeral base y)
          go below true e = subst (P y) (sym (numeral_one y (ltb-true y base e))) (one y (ltb-true y base e))
          go below false e =
              let l : base ≤ y = ltb-false y base e in
              let less : y / base < y = fewer y l in
              subst (P y) (sym (numeral_more y l)) (more y l (below (omega arith)))

  -- ---- how long it is, and that each character is a digit
  pub numeral_least : (x : ℕ) → 0 < length (numeral base x)
  numeral_least =
      by_digits (λ (y : ℕ) (ds : List ℕ). 0 < length ds) (λ y l. lit≤ tt)
      (λ y l below. omega (arith, length-append (numeral base (y / base)) (digit (y % base) ∷ [])))

  pub numeral_most : (k x : ℕ) → 0 < k → x < base ^ k → length (numeral base x) ≤ k
  numeral_most zero x pos h = absurd (omega arith)
  numeral_most (suc k) x pos h = go (numeral_most k (x / base)) (ltb x base) refl
    where
      shorter : x / base < base ^ k
      shorter = (div-lt_iff_lt-mul {k = base} (omega arith)).1 (subst (λ (n : ℕ). x < n) (pow-suc base k) h)

      some : base ≤ x → 0 < k
      some l = go' k h
        where
          go' : (n : ℕ) → x < base ^ suc n → 0 < n
          go' zero m = let one : base ^ 1 ≡ base = rw (pow-suc, pow-zero) (omega arith) in absurd (omega arith)
          go' (suc n) m = omega arith

      go : (0 < k → x / base < base ^ k → length (numeral base (x / base)) ≤ k) → (b : Bool) → ltb x base ≡ b → length (numeral base x) ≤ suc k
      go below true e = omega (arith, ap length (numeral_one x (ltb-true x base e)))
      go below false e =
          let l : base ≤ x = ltb-false x base e in
          let short : length (numeral base (x / base)) ≤ k = below (some l) shorter in
          omega (arith, ap length (numeral_more x l), length-append (numeral base (x / base)) (digit (x % base) ∷ []))

  pub numeral_digits : (x c : ℕ) → Memᴰ c (numeral base x) → (d : ℕ) × (d < base) × (c ≡ digit d)
  numeral_digits =
      by_digits (λ (y : ℕ) (ds : List ℕ). (c : ℕ) → Memᴰ c ds → (d : ℕ) × (d < base) × (c ≡ digit d))
      (λ y l c m. (y, l, Memᴰ.eq_of_singleton m))
      (λ y l below c m.
      ⊎_elim (λ k. below c k) (λ k. (y % base, mod-lt y {m = base} (omega arith), Memᴰ.eq_of_singleton k))
      (Memᴰ.append_cases (numeral base (y / base)) m))

  -- only 0 starts with a zero
  pub numeral_first : (x : ℕ) → 0 < x → get_or (numeral base x) 0 0 ≡ digit 0 → ⊥
  numeral_first =
      by_digits (λ (y : ℕ) (ds : List ℕ). 0 < y → get_or ds 0 0 ≡ digit 0 → ⊥) (λ y l some e. some_digit y some e)
      (λ y l below some e.
      below ((le-div_iff_mul-le {k = base} (omega arith)).1 (omega arith))
      (sym (get_or-append (numeral base (y / base)) (digit (y % base) ∷ []) 0 0 (numeral_least (y / base))) ∙ e))

  -- ---- the number read back
  pub numeral_value : base ≤ 16 → (x : ℕ) → value base (numeral base x) ≡ x
  numeral_value few =
      by_digits (λ (y : ℕ) (ds : List ℕ). value base ds ≡ y)
      (λ y l. value_one base (digit y) ∙ digit_value_lem y (omega arith))
      (λ y l below.
      value_more base (numeral base (y / base)) (digit (y % base))
      ∙ ap₂ (λ (p q : ℕ). p * base + q) below (digit_value_lem (y % base) (omega (arith, mod-lt y {m = base} (omega arith))))
      ∙ div-add-mod' y base)

  pub numeral_injective : base ≤ 16 → (x y : ℕ) → numeral base x ≡ numeral base y → x ≡ y
  numeral_injective few x y e = sym (numeral_value few x) ∙ ap (value base) e ∙ numeral_value few y

-- ---- `write_decimal`: the places from at on are written, and the one before is the next
pub rest_fits : (at rest : ℕ) → 0 < at → rest < 10 ^ at → rest / 10 < 10 ^ (at - 1)
rest_fits zero rest some few = absurd (omega arith)
rest_fits (suc at) rest some few =
    let e : suc at - 1 ≡ at = omega arith in
    rw e ((div-lt_iff_lt-mul {k = 10} (lit≤ tt)).1 (subst (λ (n : ℕ). rest < n) (pow-suc 10 at) few))

module _ (digits : List ℕ) (at rest c : ℕ) (whole : List ℕ) (some : 0 < at) (l : at ≤ length digits) (e : whole ≡ numeral 10 rest ++ drop at digits) where
  -- one more digit is written
  place_written : (front : List ℕ) → numeral 10 rest ≡ front ++ (c ∷ []) → whole ≡ front ++ drop (at - 1) (set digits (at - 1) c)
  place_written front q =
      let k : at ≡ suc (at - 1) = omega arith in
      e
      ∙ ap (λ (r : List ℕ). r ++ drop at digits) q
      ∙ append_assoc front (c ∷ []) (drop at digits)
      ∙ ap (λ (n : ℕ). front ++ (c ∷ drop n digits)) k
      ∙ ap (λ (r : List ℕ). front ++ r) (sym (drop_set digits (at - 1) c (omega arith)))

  pub decimal_turn : 10 ≤ rest → c ≡ digit (rest % 10) → whole ≡ numeral 10 (rest / 10) ++ drop (at - 1) (set digits (at - 1) c)
  decimal_turn more ec =
      place_written (numeral 10 (rest / 10)) (numeral_more 10 (lit≤ tt) rest more ∙ ap (λ (d : ℕ). numeral 10 (rest / 10) ++ (d ∷ [])) (sym ec))

  pub decimal_last : rest < 10 → c ≡ digit rest → drop (at - 1) (set digits (at - 1) c) ≡ whole
  decimal_last last ec = sym (place_written [] (numeral_one 10 (lit≤ tt) rest last ∙ ap (λ (d : ℕ). d ∷ []) (sym ec)))

-- ---- hexadecimal: two digits a byte
byte_length : (x : ℕ) → length (hexadecimal_byte x) ≡ byte_digits
unfolding hexadecimal_byte
byte_length x = refl

pub byte_digits_lem : (x : ℕ) → digit (x / 16) ∷ digit (x % 16) ∷ [] ≡ hexadecimal_byte x
unfolding hexadecimal_byte
byte_digits_lem x = refl

pub hexadecimal_length : (t : List ℕ) → length (hexadecimal t) ≡ byte_digits * length t
unfolding hexadecimal
hexadecimal_length t = joined_length hexadecimal_byte byte_digits byte_length t

-- `with_hexadecimal`, from the start and one byte more
pub hexadecimal_none : (t : List ℕ) → hexadecimal (take 0 t) ≡ []
unfolding hexadecimal joined
hexadecimal_none t = refl

pub hexadecimal_more : (t : List ℕ) (i : ℕ) → i < length t → hexadecimal (take i t) ++ hexadecimal_byte (get_or t i 0) ≡ hexadecimal (take (i + 1) t)
unfolding hexadecimal
hexadecimal_more t i l =
    let x : ℕ = get_or t i 0 in
    sym
    (ap (λ (k : ℕ). joined hexadecimal_byte (take k t)) (add-one i)
    ∙ ap (joined hexadecimal_byte) (take-suc t i 0 l)
    ∙ joined_append hexadecimal_byte (take i t) (x ∷ [])
    ∙ ap (λ (r : List ℕ). joined hexadecimal_byte (take i t) ++ r) (joined_one hexadecimal_byte x))

-- bytes that are written alike are the same
byte_value : (x : ℕ) → x < 256 → value 16 (hexadecimal_byte x) ≡ x
unfolding hexadecimal_byte
byte_value x l =
    value_more 16 (digit (x / 16) ∷ []) (digit (x % 16))
    ∙ ap₂ (λ (p q : ℕ). p * 16 + q)
    (value_one 16 (digit (x / 16)) ∙ digit_value_lem (x / 16) ((div-lt_iff_lt-mul {k = 16} (lit≤ tt)).1 l))
    (digit_value_lem (x % 16) (mod-lt x (lit≤ tt)))
    ∙ div-add-mod' x 16

pub hexadecimal_injective : (s t : List ℕ) → Bytes s → Bytes t → hexadecimal s ≡ hexadecimal t → s ≡ t
unfolding hexadecimal joined
hexadecimal_injective [] [] bs bt e = refl
hexadecimal_injective [] (y ∷ t) bs bt e = absurd (omega (arith, ap length e, length-append (hexadecimal_byte y) (joined hexadecimal_byte t), byte_length y))
hexadecimal_injective (x ∷ s) [] bs bt e = absurd (omega (arith, ap length e, length-append (hexadecimal_byte x) (joined hexadecimal_byte s), byte_length x))
hexadecimal_injective (x ∷ s) (y ∷ t) bs bt e =
    let first : hexadecimal_byte x ≡ hexadecimal_byte y =
    sym (take_at (hexadecimal_byte x) _ byte_digits (byte_length x)) ∙ ap (take byte_digits) e ∙ take_at (hexadecimal_byte y) _ byte_digits (byte_length y) in
    let rest : hexadecimal s ≡ hexadecimal t =
    sym (drop_at (hexadecimal_byte x) _ byte_digits (byte_length x)) ∙ ap (drop byte_digits) e ∙ drop_at (hexadecimal_byte y) _ byte_digits (byte_length y) in
    ap₂ (λ (a : ℕ) (r : List ℕ). a ∷ r)
    (sym (byte_value x (bs 0)) ∙ ap (value 16) first ∙ byte_value y (bt 0))
    (hexadecimal_injective s t (λ i. bs (suc i)) (λ i. bt (suc i)) rest)
