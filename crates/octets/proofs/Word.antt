-- The laws of `word` and `low_first`: bytes as one number, the lowest first.
use Prim.Native.Nat.{ℕ, zero, suc, ◌+◌, ◌*◌, ◌/◌, ◌%◌, ◌^◌, ◌<◌, zero-le}
use native.Mathlib.Nat.{pow-suc, pow-le-pow_right, div-one, div-div-eq-div-mul, mul_comm, suc-add, zero-add, mod-lt}
use mathlib.Core.List.{List, [], ◌∷◌, ◌++◌}
use mathlib.Core.Path.{◌≡◌, refl, sym, ap, ap₂, ◌∙◌}
use lib.Arith.{digits_div, digits_mod, mod-mul}
use lib.Dec.{lit<}
use lib.ListN.{length}
use Rattle.octets.specs.Bytes.{Bytes}
use Rattle.octets.specs.BigEndian.{number, word, low_first}
use Rattle.octets.proofs.BigEndian.{number_append, number_lt}

-- ---- `low_first`
pub low_length : (n x : ℕ) → length (low_first n x) ≡ n
unfolding low_first
low_length zero x = refl
low_length (suc n) x = ap suc (low_length n (x / 256))

low_bytes : (n x : ℕ) → Bytes (low_first n x)
unfolding low_first
low_bytes zero x i = lit< tt
low_bytes (suc n) x zero = mod-lt x (lit< tt)
low_bytes (suc n) x (suc i) = low_bytes n (x / 256) i

pub low_lt : (n x : ℕ) {r : ℕ} → r ≡ number (low_first n x) → r < 256 ^ n
low_lt n x e = rw e (number_lt (low_first n x) n (low_bytes n x) (low_length n x))

-- bytes that are read and written again are as they were
pub low_word : (xs : List ℕ) → Bytes xs → low_first (length xs) (word xs) ≡ xs
unfolding word low_first
low_word [] b = refl
low_word (x ∷ xs) b =
    ap₂ (λ (r : ℕ) (rs : List ℕ). r ∷ rs) (digits_mod (word xs) (b 0))
    (ap (low_first (length xs)) (digits_div (word xs) (b 0)) ∙ low_word xs (λ i. b (suc i)))

-- the first m of the bytes, and the n behind them
low_split : (m n x : ℕ) → low_first (m + n) x ≡ low_first m (x % 256 ^ m) ++ low_first n (x / 256 ^ m)
unfolding low_first
low_split zero n x = ap₂ low_first (zero-add n) (sym (div-one x))
low_split (suc m) n x =
    ap (λ (k : ℕ). low_first k x) (suc-add m n)
    ∙ ap₂ (λ (r : ℕ) (rs : List ℕ). r ∷ rs) (sym (ap (λ (k : ℕ). k % 256) split ∙ digits_mod (x / 256 % 256 ^ m) low))
    (low_split m n (x / 256)
    ∙ ap₂ (λ (a b : ℕ). low_first m a ++ low_first n b)
    (sym (ap (λ (k : ℕ). k / 256) split ∙ digits_div (x / 256 % 256 ^ m) low))
    (div-div-eq-div-mul x 256 (256 ^ m) ∙ ap (λ (k : ℕ). x / k) (mul_comm 256 (256 ^ m) ∙ sym (pow-suc 256 m))))
  where
    low : x % 256 < 256
    low = mod-lt x (lit< tt)

    split : x % 256 ^ suc m ≡ (x / 256 % 256 ^ m) * 256 + x % 256
    split = ap (λ (k : ℕ). x % k) (pow-suc 256 m) ∙ mod-mul x {m = 256 ^ m} {c = 256} (pow-le-pow_right {n = 256} (lit< tt) zero-le) (lit< tt)

-- and so the number that they write in the other order
pub low_number : (m n x : ℕ) → number (low_first (m + n) x) ≡ number (low_first m (x % 256 ^ m)) * 256 ^ n + number (low_first n (x / 256 ^ m))
low_number m n x =
    ap number (low_split m n x)
    ∙ number_append (low_first m (x % 256 ^ m)) (low_first n (x / 256 ^ m))
    ∙ ap (λ (k : ℕ). number (low_first m (x % 256 ^ m)) * 256 ^ k + number (low_first n (x / 256 ^ m))) (low_length n (x / 256 ^ m))
