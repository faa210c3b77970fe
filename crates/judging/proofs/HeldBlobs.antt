-- What the library says of the blobs that are held, in the rules' words.
use Rattle.std.proofs.Common.{ℕ, suc, Bool, List, [], ◌∷◌, ◌++◌, map, length, set, take, drop, max, eqb, ◌≡◌, refl, ap, ap₂, ◌∙◌, arith}
use Rattle.std.specs.List.{fold, reduce, list_any}
use Rattle.std.specs.Option.{unwrap_or}
use lib.Pointwise.{pointwise}
use Rattle.std.proofs.lemmas.Bool.Decides.{nat_tests}
use Rattle.octets.specs.Choice.{◌then◌otherwise◌, ◌or◌}
use Rattle.octets.proofs.Chains.{either_is_or, equal_is_same}
use Rattle.packet.specs.Announce.{emission_of}
use Rattle.rules.specs.Blobs.{is_among, greatest, greatest_emission}

pub any_among : (x : List ℕ) (ys : List (List ℕ)) → list_any (λ y. pointwise eqb y x) ys ≡ is_among x ys
unfolding is_among
any_among x [] = refl
any_among x (y ∷ ys) =
    either_is_or (pointwise eqb y x) (list_any (λ z. pointwise eqb z x) ys) ∙ ap₂ (λ (a b : Bool). a or b) (equal_is_same y x) (any_among x ys)

max_greatest : (x y : ℕ) → max x y ≡ greatest x y
unfolding greatest ◌then◌otherwise◌
max_greatest x y = grind (arith, nat_tests)

greatest_in_turn : (x y z : ℕ) → greatest (max x y) z ≡ greatest x (greatest y z)
unfolding greatest ◌then◌otherwise◌
greatest_in_turn x y z = grind (arith, nat_tests)

greatest_before : (x : ℕ) (ys : List (List ℕ)) → fold max x (map emission_of ys) ≡ greatest x (greatest_emission ys)
unfolding greatest_emission greatest ◌then◌otherwise◌
greatest_before x [] = grind (arith, nat_tests)
greatest_before x (y ∷ ys) = greatest_before (max x (emission_of y)) ys ∙ greatest_in_turn x (emission_of y) (greatest_emission ys)

pub greatest_of : (ys : List (List ℕ)) → unwrap_or (reduce max (map emission_of ys)) 0 ≡ greatest_emission ys
unfolding greatest_emission
greatest_of [] = refl
greatest_of (y ∷ ys) = greatest_before (emission_of y) ys

last_set : {A : Type 0} (x y : A) (ys : List A) → set (ys ++ (y ∷ [])) (length ys) x ≡ ys ++ (x ∷ [])
last_set x y [] = refl
last_set x y (z ∷ ys) = ap (λ (zs : List _). z ∷ zs) (last_set x y ys)

-- the oldest goes
pub turned : {A : Type 0} (x : A) (ys : List A) (n : ℕ) → length ys ≡ suc n → set (drop 1 ys ++ take 1 ys) n x ≡ drop 1 ys ++ (x ∷ [])
turned x [] n h = absurd (omega arith)
turned x (y ∷ ys) n h = let e : n ≡ length ys = omega arith in ap (λ (k : ℕ). set (ys ++ (y ∷ [])) k x) e ∙ last_set x y ys
