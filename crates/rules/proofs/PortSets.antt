-- The laws of port sets: which ports are in one, and the images of a set.
use Prim.Native.Nat.{ℕ, zero, suc, ◌+◌, ◌-◌, ◌/◌, ◌%◌, ◌^◌, ◌≤◌, ◌<◌}
use native.Mathlib.Nat.{le_refl, le_antisymm, add-zero, not-suc-le-zero, eq-or-lt_of_le, le_of_suc-le-suc, le_trans, two-pow-succ, pow-suc, div-eq_of_lt, zero-div, add-div_right, add-mul-div_right, add-mul-mod_self_right}
use native.Mathlib.Decide.{dec_lt}
use native.Mathlib.Omega.{arith}
use mathlib.Core.Bool.{Bool, true, false}
use mathlib.Core.List.{List}
use mathlib.Core.Logic.{⊎_elim}
use mathlib.Core.Path.{◌≡◌, refl, sym, ap, ◌∙◌}
use lib.Dec.{eqb}
use lib.ListN.{get_or}
use lib.Pow.{pow_pos, pow_mono, pow-add}
use Rattle.octets.specs.Choice.{◌then◌otherwise◌}
use Rattle.rules.specs.Renumbering.{image, one_to_one, preimage}
use Rattle.rules.specs.Answers.{set_below, port_set, in_set, image_set}
use Rattle.rules.proofs.Images.{eqb_both, image_port, image_below, preimage_le, preimage_image}
use Rattle.numbers.specs.Numbers.{port_count}

pub set_below_lem : (f : ℕ → Bool) (n : ℕ) → set_below f n < 2 ^ n
unfolding set_below ◌then◌otherwise◌
set_below_lem f zero = le_refl 1
set_below_lem f (suc n) = go (set_below_lem f n) (f n)
  where
    go : set_below f n < 2 ^ n → (b : Bool) → set_below f n + (b then 2 ^ n otherwise 0) < 2 ^ suc n
    go h true = omega (arith, two-pow-succ n)
    go h false = omega (arith, two-pow-succ n)

-- a higher bit leaves the lower ones as they are
higher_bit : (x k n : ℕ) → k < n → (x + 2 ^ n) / 2 ^ k % 2 ≡ x / 2 ^ k % 2
higher_bit x k n l =
    let j : ℕ = n - suc k in
    let e : n ≡ suc j + k = omega arith in
    ap (λ (y : ℕ). (x + y) / 2 ^ k % 2) (ap (λ (y : ℕ). 2 ^ y) e ∙ pow-add 2 (suc j) k)
    ∙ ap (λ (y : ℕ). y % 2) (add-mul-div_right x (2 ^ suc j) (pow_pos k))
    ∙ ap (λ (y : ℕ). (x / 2 ^ k + y) % 2) (pow-suc 2 j)
    ∙ add-mul-mod_self_right (x / 2 ^ k) (2 ^ j) 2

in_zero : (k : ℕ) → in_set 0 k ≡ false
unfolding in_set
in_zero k = ap (λ (x : ℕ). eqb (x % 2) 1) (zero-div (2 ^ k))

pub not_in : (f : ℕ → Bool) (n k : ℕ) → n ≤ k → in_set (set_below f n) k ≡ false
unfolding in_set
not_in f n k l = ap (λ (x : ℕ). eqb (x % 2) 1) (div-eq_of_lt (le_trans (set_below_lem f n) (pow_mono l)))

pub in_set_lem : (f : ℕ → Bool) (n k : ℕ) → k < n → in_set (set_below f n) k ≡ f k
unfolding set_below in_set ◌then◌otherwise◌
in_set_lem f zero k l = absurd (not-suc-le-zero l)
in_set_lem f (suc n) k l =
    ⊎_elim
    (λ (q : k ≡ n). rw q (here (f n)))
    (λ (b : k < n). there b (f n) ∙ in_set_lem f n k b)
    (eq-or-lt_of_le (le_of_suc-le-suc l))
  where
    here : (b : Bool) → eqb ((set_below f n + (b then 2 ^ n otherwise 0)) / 2 ^ n % 2) 1 ≡ b
    here true =
        ap (λ (x : ℕ). eqb (x % 2) 1) (add-div_right (set_below f n) (pow_pos n))
        ∙ ap (λ (x : ℕ). eqb ((x + 1) % 2) 1) (div-eq_of_lt (set_below_lem f n))
    here false =
        ap (λ (x : ℕ). eqb (x / 2 ^ n % 2) 1) (add-zero (set_below f n))
        ∙ ap (λ (x : ℕ). eqb (x % 2) 1) (div-eq_of_lt (set_below_lem f n))

    there : k < n → (b : Bool) → eqb ((set_below f n + (b then 2 ^ n otherwise 0)) / 2 ^ k % 2) 1 ≡ eqb (set_below f n / 2 ^ k % 2) 1
    there h true = ap (λ (x : ℕ). eqb x 1) (higher_bit (set_below f n) k n h)
    there h false = ap (λ (x : ℕ). eqb (x / 2 ^ k % 2) 1) (add-zero (set_below f n))

set_cong : (f g : ℕ → Bool) (n : ℕ) → ((k : ℕ) → k < n → f k ≡ g k) → set_below f n ≡ set_below g n
unfolding set_below
set_cong f g zero h = refl
set_cong f g (suc n) h = rw (set_cong f g n (λ k l. h k (omega arith)), h n (le_refl (suc n)))

set_none : (f : ℕ → Bool) (n : ℕ) → ((k : ℕ) → k < n → f k ≡ false) → set_below f n ≡ 0
unfolding set_below ◌then◌otherwise◌
set_none f zero h = refl
set_none f (suc n) h = rw (set_none f n (λ k l. h k (omega arith)), h n (le_refl (suc n)))

-- an empty set has no port
none_in : (f : ℕ → Bool) → port_set f ≡ 0 → (k : ℕ) → k < port_count → f k ≡ false
unfolding port_set
none_in f e k l = sym (in_set_lem f port_count k l) ∙ ap (λ (x : ℕ). in_set x k) e ∙ in_zero k

module _ (m : List ℕ) (ok : one_to_one m ≡ true) where
  -- a port is in a set exactly if its image is in the renamed set
  pub in_image_set : (set p : ℕ) → p < port_count → in_set (image_set m set) (image m p) ≡ in_set set p
  unfolding image_set port_set
  in_image_set set p l =
      ap (in_set (image_set m set)) (image_port m p l)
      ∙ in_set_lem (λ n. in_set set (preimage m n)) port_count (get_or m p 0) (image_below m ok p l)
      ∙ ap (in_set set) (preimage_image m ok p l)

  -- the set of those ports that come from a port of the set
  pub image_set_lem : (f g : ℕ → Bool)
      → ((n : ℕ) → n < port_count → preimage m n < port_count → g n ≡ f (preimage m n))
      → ((n : ℕ) → n < port_count → preimage m n ≡ port_count → g n ≡ false)
      → port_set g ≡ image_set m (port_set f)
  unfolding port_set image_set
  image_set_lem f g some none-there = set_cong g (λ n. in_set (port_set f) (preimage m n)) port_count (λ n l. go n l (dec_lt (preimage m n) port_count))
    where
      go : (n : ℕ) → n < port_count → Dec (preimage m n < port_count) → g n ≡ in_set (set_below f port_count) (preimage m n)
      go n l (yes b) = some n l b ∙ sym (in_set_lem f port_count (preimage m n) b)
      go n l (no b) =
          none-there n l (le_antisymm (preimage_le m n) (omega arith))
          ∙ sym (not_in f port_count (preimage m n) (omega arith))

  -- a set is empty if and only if its image is
  pub image_set_empty : (f : ℕ → Bool) → eqb (image_set m (port_set f)) 0 ≡ eqb (port_set f) 0
  unfolding image_set port_set
  image_set_empty f =
      eqb_both (image_set m (port_set f)) 0 (port_set f) 0
      (λ e.
      set_none f port_count
      (λ k l.
      sym (in_set_lem f port_count k l)
      ∙ ap (in_set (port_set f)) (sym (preimage_image m ok k l))
      ∙ none_in (λ n. in_set (port_set f) (preimage m n)) e (get_or m k 0) (image_below m ok k l)))
      (λ e. set_none (λ n. in_set (port_set f) (preimage m n)) port_count (λ n l. ap (λ (x : ℕ). in_set x (preimage m n)) e ∙ in_zero (preimage m n)))
