-- What keeps a table's size and the rule of its elements: a write, a change of each element, a list of elements that keep it.
use Prim.Native.Nat.{ℕ, zero, suc, ◌<◌}
use native.Mathlib.Nat.{le_refl}
use native.Mathlib.Omega.{arith}
use mathlib.Core.Bool.{Bool, true}
use mathlib.Core.List.{List, [], ◌∷◌, ◌++◌, map}
use mathlib.Core.Path.{◌≡◌, refl, ◌∙◌}
use lib.ListN.{length, get_or, set, replicate, length-set, length-map, length-replicate}
use borrow.Author.Tests.{eq-eqb, eqb-true}
use Rattle.octets.specs.Index.{list_of}
use Rattle.octets.proofs.Index.{and_left, and_right, and_both}
use Rattle.octets.proofs.ListOf.{list_of_length}
use Rattle.rules.specs.Refusals.{all, table_ok}

module _ {A : Type 0} (ok : A → Bool) where
  pub all_set : (xs : List A) (i : ℕ) (y : A) → all ok xs ≡ true → ok y ≡ true → all ok (set xs i y) ≡ true
  unfolding all
  all_set [] i y h k = refl
  all_set (x ∷ xs) zero y h k = and_both k (and_right _ _ h)
  all_set (x ∷ xs) (suc i) y h k = and_both (and_left _ _ h) (all_set xs i y (and_right _ _ h) k)

  pub all_map : (f : A → A) → ((x : A) → ok x ≡ true → ok (f x) ≡ true) → (xs : List A) → all ok xs ≡ true → all ok (map f xs) ≡ true
  unfolding all
  all_map f each [] h = refl
  all_map f each (x ∷ xs) h = and_both (each x (and_left _ _ h)) (all_map f each xs (and_right _ _ h))

  pub all_append : (xs ys : List A) → all ok xs ≡ true → all ok ys ≡ true → all ok (xs ++ ys) ≡ true
  unfolding all
  all_append [] ys h k = k
  all_append (x ∷ xs) ys h k = and_both (and_left _ _ h) (all_append xs ys (and_right _ _ h) k)

  pub all_list_of : (f : ℕ → A) (n : ℕ) → ((i : ℕ) → i < n → ok (f i) ≡ true) → all ok (list_of f n) ≡ true
  unfolding all list_of
  all_list_of f zero each = refl
  all_list_of f (suc n) each =
      all_append (list_of f n) (f n ∷ []) (all_list_of f n (λ i l. each i (omega arith))) (and_both (each n (le_refl (suc n))) refl)

  pub all_replicate : (n : ℕ) (x : A) → ok x ≡ true → all ok (replicate n x) ≡ true
  unfolding all
  all_replicate zero x k = refl
  all_replicate (suc n) x k = and_both k (all_replicate n x k)

  pub all_get_d : (xs : List A) (i : ℕ) (d : A) → all ok xs ≡ true → ok d ≡ true → ok (get_or xs i d) ≡ true
  unfolding all
  all_get_d [] i d h k = k
  all_get_d (x ∷ xs) zero d h k = and_left _ _ h
  all_get_d (x ∷ xs) (suc i) d h k = all_get_d xs i d (and_right _ _ h) k

  -- ---- a table of n
  module _ (n : ℕ) where
    pub table_of : (xs : List A) → length xs ≡ n → all ok xs ≡ true → table_ok n ok xs ≡ true
    unfolding table_ok
    table_of xs e h = and_both (eq-eqb (length xs) n e) h

    pub table_list_of : (f : ℕ → A) → ((i : ℕ) → ok (f i) ≡ true) → table_ok n ok (list_of f n) ≡ true
    table_list_of f each = table_of (list_of f n) (list_of_length f n) (all_list_of f n (λ i l. each i))

    pub table_replicate : (x : A) → ok x ≡ true → table_ok n ok (replicate n x) ≡ true
    table_replicate x k = table_of (replicate n x) (length-replicate n x) (all_replicate n x k)

    module _ (xs : List A) (h : table_ok n ok xs ≡ true) where
      pub table_length : length xs ≡ n
      unfolding table_ok
      table_length = eqb-true (length xs) n (and_left _ _ h)

      pub table_all : all ok xs ≡ true
      unfolding table_ok
      table_all = and_right _ _ h

      pub table_set : (i : ℕ) (y : A) → ok y ≡ true → table_ok n ok (set xs i y) ≡ true
      table_set i y k = table_of (set xs i y) (length-set xs i y ∙ table_length) (all_set xs i y table_all k)

      pub table_map : (f : A → A) → ((x : A) → ok x ≡ true → ok (f x) ≡ true) → table_ok n ok (map f xs) ≡ true
      table_map f keeps = table_of (map f xs) (length-map xs f ∙ table_length) (all_map f keeps xs table_all)

      pub table_get_d : (i : ℕ) (d : A) → ok d ≡ true → ok (get_or xs i d) ≡ true
      table_get_d i d k = all_get_d xs i d table_all k
