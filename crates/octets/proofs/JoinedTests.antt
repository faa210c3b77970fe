-- The laws of a list of tests that stands before others (`◌each_give◌otherwise◌`), and a list cut at the tests for a value.
use mathlib.Core.Bool.{Bool, true, false}
use mathlib.Core.List.{List, [], ◌∷◌}
use mathlib.Core.Path.{◌≡◌, refl, ap}
use Rattle.octets.specs.Choice.{◌then◌otherwise◌}
use Rattle.octets.specs.Listed.{Test, ◌gives◌otherwise◌, first_of, valued, ◌each_give◌otherwise◌}
use Rattle.octets.proofs.Listed.{NoneHolds}

module _ {A B : Type 0} (f : A → B) where
  -- what it gives is what the list gives, or else those behind it
  pub joined_first : (ts : List (Test A)) (rest : List (Test B)) (x : B)
      → first_of (ts each_give f otherwise rest) x ≡ first_of (valued f ts) (first_of rest x)
  unfolding first_of valued
  joined_first [] rest x = refl
  joined_first (t ∷ ts) rest x = ap (λ (r : B). t.holds then f t.value otherwise r) (joined_first ts rest x)

  pub joined_valued : {C : Type 0} (g : B → C) (ts : List (Test A)) (rest : List (Test B))
      → valued g (ts each_give f otherwise rest) ≡ (ts each_give (λ (x : A). g (f x)) otherwise valued g rest)
  unfolding valued
  joined_valued g [] rest = refl
  joined_valued g (t ∷ ts) rest = ap (λ (r : List _). t.holds gives g (f t.value) otherwise r) (joined_valued g ts rest)

  -- none of all holds
  pub none_joined : (ts : List (Test A)) (rest : List (Test B)) → NoneHolds ts → NoneHolds rest → NoneHolds (ts each_give f otherwise rest)
  none_joined [] rest none behind = behind
  none_joined (t ∷ ts) rest none behind = (none.0, none_joined ts rest none.1 behind)

  pub none_valued : (ts : List (Test A)) → NoneHolds ts → NoneHolds (valued f ts)
  unfolding valued
  none_valued [] none = tt
  none_valued (t ∷ ts) none = (none.0, none_valued ts none.1)

  pub joined_none : (ts : List (Test A)) (rest : List (Test B)) → NoneHolds (ts each_give f otherwise rest) → NoneHolds ts × NoneHolds rest
  joined_none [] rest all = (tt, all)
  joined_none (t ∷ ts) rest all = let (none, behind) = joined_none ts rest all.1 in ((all.0, none), behind)

-- ---- by the first test for a value: whether it holds, the tests before it, and those behind it
unfoldable pub holds_for : {A : Type 0} → (A → Bool) → List (Test A) → Bool
holds_for p [] = false
holds_for p (t ∷ ts) = p t.value then t.holds otherwise holds_for p ts

unfoldable pub before : {A : Type 0} → (A → Bool) → List (Test A) → List (Test A)
before p [] = []
before p (t ∷ ts) = p t.value then [] otherwise (t ∷ before p ts)

unfoldable pub behind : {A : Type 0} → (A → Bool) → List (Test A) → List (Test A)
behind p [] = []
behind p (t ∷ ts) = p t.value then ts otherwise behind p ts

pub none_for : {A : Type 0} (p : A → Bool) (ts : List (Test A)) → NoneHolds ts → holds_for p ts ≡ false
unfolding holds_for ◌then◌otherwise◌
none_for p [] none = refl
none_for {A} p (t ∷ ts) none = go (p t.value) (none_for p ts none.1)
  where
    go : (b : Bool) → holds_for p ts ≡ false → (b then t.holds otherwise holds_for p ts) ≡ false
    go true below = none.0
    go false below = below

pub none_before : {A : Type 0} (p : A → Bool) (ts : List (Test A)) → NoneHolds ts → NoneHolds (before p ts)
unfolding before ◌then◌otherwise◌
none_before p [] none = tt
none_before {A} p (t ∷ ts) none = go (p t.value) (none_before p ts none.1)
  where
    go : (b : Bool) → NoneHolds (before p ts) → NoneHolds (b then [] otherwise (t ∷ before p ts))
    go true below = tt
    go false below = (none.0, below)
