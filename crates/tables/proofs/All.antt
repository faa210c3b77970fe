-- The laws of `all` and of `is_bytes`: every element of a list keeps a rule.
use Prim.Native.Nat.{ℕ, zero, suc, ◌<◌}
use native.Mathlib.Nat.{not-suc-le-zero, le_of_suc-le-suc}
use native.Mathlib.Omega.{arith}
use mathlib.Core.Bool.{Bool, true}
use mathlib.Core.List.{List, [], ◌∷◌}
use mathlib.Core.Path.{◌≡◌, refl}
use lib.Dec.{lit<}
use lib.ListN.{length, get_or}
use borrow.Author.Tests.{lt-ltb, ltb-true}
use Rattle.octets.specs.Bytes.{Bytes}
use Rattle.octets.proofs.Index.{and_left, and_right, and_both}
pub use Rattle.codes.proofs.Single.{exactly_length, exactly_same}
use Rattle.rules.specs.Refusals.{all}
use Rattle.rules.proofs.Tables.{table_of, table_length, table_all}
use Rattle.tables.specs.Shape.{is_byte, is_bytes}

-- ---- `all`
module _ {A : Type 0} (ok : A → Bool) where
  pub all_nth : (xs : List A) (i : ℕ) (d : A) → all ok xs ≡ true → i < length xs → ok (get_or xs i d) ≡ true
  unfolding all
  all_nth [] i d h l = absurd (not-suc-le-zero l)
  all_nth (x ∷ xs) zero d h l = and_left _ _ h
  all_nth (x ∷ xs) (suc i) d h l = all_nth xs i d (and_right _ _ h) (le_of_suc-le-suc l)

  pub all_from : (xs : List A) (d : A) → ((i : ℕ) → i < length xs → ok (get_or xs i d) ≡ true) → all ok xs ≡ true
  unfolding all
  all_from [] d each = refl
  all_from (x ∷ xs) d each = and_both (each 0 (omega arith)) (all_from xs d (λ i l. each (suc i) (omega arith)))

-- ---- `is_bytes`
all_bytes : (xs : List ℕ) → all is_byte xs ≡ true → Bytes xs
unfolding all is_byte
all_bytes [] h i = lit< tt
all_bytes (x ∷ xs) h zero = ltb-true x 256 (and_left _ _ h)
all_bytes (x ∷ xs) h (suc i) = all_bytes xs (and_right _ _ h) i

bytes_all : (xs : List ℕ) → Bytes xs → all is_byte xs ≡ true
unfolding all is_byte
bytes_all [] b = refl
bytes_all (x ∷ xs) b = and_both (lt-ltb x 256 (b 0)) (bytes_all xs (λ i. b (suc i)))

module _ (n : ℕ) (xs : List ℕ) where
  pub is_bytes_lem : length xs ≡ n → Bytes xs → is_bytes n xs ≡ true
  unfolding is_bytes
  is_bytes_lem e b = table_of is_byte n xs e (bytes_all xs b)

  pub is_length : is_bytes n xs ≡ true → length xs ≡ n
  unfolding is_bytes
  is_length h = table_length is_byte n xs h

  pub is_each : is_bytes n xs ≡ true → Bytes xs
  unfolding is_bytes
  is_each h = all_bytes xs (table_all is_byte n xs h)
