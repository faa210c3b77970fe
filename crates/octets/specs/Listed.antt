-- A list of tests, each with the value that it gives: the first that holds decides.
use Rattle.std.specs.Prelude.{Bool, false, List, [], ◌∷◌}
use Rattle.octets.specs.Choice.{◌then◌otherwise◌, ◌or◌}

pub record Test (A : Type 0) : Type 0 where
  pub holds : Bool
  pub value : A

infixr 20 ◌gives◌otherwise◌
abbrev pub ◌gives◌otherwise◌ : {A : Type 0} → Bool → A → List (Test A) → List (Test A)
test gives x otherwise ts = record { holds = test; value = x } ∷ ts

unfoldable pub first_of : {A : Type 0} → List (Test A) → A → A
first_of [] rest = rest
first_of (t ∷ ts) rest = t.holds then t.value otherwise first_of ts rest

-- whether one of the tests holds
unfoldable pub any_holds : {A : Type 0} → List (Test A) → Bool
any_holds [] = false
any_holds (t ∷ ts) = t.holds or any_holds ts

-- the list with other values
unfoldable pub valued : {A B : Type 0} → (A → B) → List (Test A) → List (Test B)
valued f [] = []
valued f (t ∷ ts) = t.holds gives f t.value otherwise valued f ts

-- a list before others, with its values by f
infixr 20 ◌each_give◌otherwise◌
abbrev pub ◌each_give◌otherwise◌ : {A B : Type 0} → List (Test A) → (A → B) → List (Test B) → List (Test B)
[] each_give f otherwise rest = rest
(t ∷ ts) each_give f otherwise rest = t.holds gives f t.value otherwise ts each_give f otherwise rest
