-- What holds of both values of a choice holds of the choice.
use mathlib.Core.Bool.{Bool, true, false}
use mathlib.Core.Path.{◌≡◌, refl}
use Rattle.octets.specs.Choice.{◌then◌otherwise◌}

pub either : {A : Type 0} (P : A → Type 0) (t : Bool) {x y : A} → (t ≡ true → P x) → (t ≡ false → P y) → P (t then x otherwise y)
unfolding ◌then◌otherwise◌
either P true yes-so no-so = yes-so refl
either P false yes-so no-so = no-so refl
