-- The laws of a list of tests, each said once for every list.
use mathlib.Core.Bool.{Bool, true, false, not, false≢true}
use mathlib.Core.List.{List, [], ◌∷◌}
use mathlib.Core.Path.{◌≡◌, refl, sym, ap, ◌∙◌}
use Prim.Native.Nat.{ℕ}
use lib.Dec.{eqb}
use borrow.Author.Tests.{not-true}
use Rattle.octets.specs.Index.{◌and◌}
use Rattle.octets.specs.Choice.{◌then◌otherwise◌, ◌or◌}
use Rattle.octets.proofs.Index.{and_left, and_right, and_both}
use Rattle.octets.proofs.Choice.{then_ap, or_no_left, or_no_right}
use Rattle.octets.specs.Listed.{Test, ◌gives◌otherwise◌, first_of, any_holds, valued}

-- the list with what the tests for a value say given
unfoldable pub told : {A : Type 0} → (A → Bool) → Bool → List (Test A) → List (Test A)
told p b [] = []
told p b (t ∷ ts) = (p t.value then b otherwise t.holds) gives t.value otherwise told p b ts

-- every value of the list passes
unfoldable pub all_give : {A : Type 0} → (A → Bool) → List (Test A) → Bool
all_give p [] = true
all_give p (t ∷ ts) = p t.value and all_give p ts

-- ---- one step
module _ {A : Type 0} (test : Bool) (x : A) (ts : List (Test A)) (rest : A) where
  pub here : test ≡ true → first_of (test gives x otherwise ts) rest ≡ x
  unfolding first_of ◌then◌otherwise◌
  here e = rw e

  pub past : test ≡ false → first_of (test gives x otherwise ts) rest ≡ first_of ts rest
  unfolding first_of ◌then◌otherwise◌
  past e = rw e

-- a function of what the list gives
pub first_ap : {A B : Type 0} (f : A → B) (ts : List (Test A)) (rest : A) → f (first_of ts rest) ≡ first_of (valued f ts) (f rest)
unfolding first_of valued
first_ap f [] rest = refl
first_ap f (t ∷ ts) rest = then_ap f t.holds t.value (first_of ts rest) ∙ ap (λ (r : _). t.holds then f t.value otherwise r) (first_ap f ts rest)

-- ---- no test holds
abbrev pub NoneHolds : {A : Type 0} → List (Test A) → Type 0
NoneHolds [] = Unit {0}
NoneHolds (t ∷ ts) = (t.holds ≡ false) × NoneHolds ts

pub none_first : {A : Type 0} (ts : List (Test A)) (rest : A) → NoneHolds ts → first_of ts rest ≡ rest
unfolding first_of ◌then◌otherwise◌
none_first [] rest n = refl
none_first (t ∷ ts) rest n = rw n.0 (none_first ts rest n.1)

pub none_any : {A : Type 0} (ts : List (Test A)) → any_holds ts ≡ false → NoneHolds ts
unfolding any_holds
none_any [] e = tt
none_any (t ∷ ts) e = (or_no_left _ _ e, none_any ts (or_no_right _ _ e))

-- where one holds, what a list without it gives is never read
pub first_any : {A B : Type 0} (f : A → B) (ts : List (Test A)) (x : A) (rest : B)
    → first_of (valued f ts) rest ≡ (any_holds ts then f (first_of ts x) otherwise rest)
unfolding first_of valued any_holds ◌then◌otherwise◌ ◌or◌
first_any f [] x rest = refl
first_any {A} {B} f (t ∷ ts) x rest = go t.holds (first_any f ts x rest)
  where
    go : (b : Bool) → first_of (valued f ts) rest ≡ (any_holds ts then f (first_of ts x) otherwise rest)
        → (b then f t.value otherwise first_of (valued f ts) rest)
        ≡ ((b or any_holds ts) then f (b then t.value otherwise first_of ts x) otherwise rest)
    go true below = refl
    go false below = below

-- where what is given isn't of the kind that the tests give, none holds
pub none_holds : {A : Type 0} (p : A → Bool) (ts : List (Test A)) (rest : A) → all_give p ts ≡ true → p (first_of ts rest) ≡ false → NoneHolds ts
unfolding first_of all_give ◌then◌otherwise◌
none_holds p [] rest g e = tt
none_holds {A} p (t ∷ ts) rest g e = go t.holds refl e (none_holds p ts rest (and_right _ _ g))
  where
    go : (b : Bool) → t.holds ≡ b → p (b then t.value otherwise first_of ts rest) ≡ false
        → (p (first_of ts rest) ≡ false → NoneHolds ts) → (t.holds ≡ false) × NoneHolds ts
    go true q h below = absurd (false≢true (sym h ∙ and_left _ _ g))
    go false q h below = (q, below h)

-- ---- what a list gives where all that it can give passes
pub all_first : {A : Type 0} (p : A → Bool) (ts : List (Test A)) (rest : A) → all_give p ts ≡ true → p rest ≡ true → p (first_of ts rest) ≡ true
unfolding first_of all_give ◌then◌otherwise◌
all_first p [] rest g r = r
all_first {A} p (t ∷ ts) rest g r = go t.holds (all_first p ts rest (and_right _ _ g) r)
  where
    go : (b : Bool) → p (first_of ts rest) ≡ true → p (b then t.value otherwise first_of ts rest) ≡ true
    go true below = and_left _ _ g
    go false below = below

-- where no value of the list passes, what is given passes where no test holds and the rest passes
pub past_first : {A : Type 0} (p : A → Bool) (ts : List (Test A)) (rest : A) → all_give (λ x. not (p x)) ts ≡ true
    → p (first_of ts rest) ≡ (not (any_holds ts) and p rest)
unfolding first_of all_give any_holds ◌then◌otherwise◌ ◌or◌ ◌and◌
past_first p [] rest g = refl
past_first {A} p (t ∷ ts) rest g = go t.holds (past_first p ts rest (and_right (not (p t.value)) _ g))
  where
    go : (b : Bool) → p (first_of ts rest) ≡ (not (any_holds ts) and p rest)
        → p (b then t.value otherwise first_of ts rest) ≡ (not (b or any_holds ts) and p rest)
    go true below = not-true _ (and_left (not (p t.value)) _ g)
    go false below = below

-- ---- what the tests for a value say matters only from there on
-- from the first of them on, every value passes
unfoldable pub late_from : {A : Type 0} → (A → Bool) → (A → Bool) → List (Test A) → Bool
late_from p late [] = true
late_from p late (t ∷ ts) = p t.value then late t.value and all_give late ts otherwise late_from p late ts

module _ {A : Type 0} (late : A → Bool) where
  -- lists that begin alike
  pub rest_alike : (ts : List (Test A)) (x y : A) → (late x ≡ false → y ≡ x) → late (first_of ts x) ≡ false → first_of ts y ≡ first_of ts x
  unfolding first_of ◌then◌otherwise◌
  rest_alike [] x y same e = same e
  rest_alike (t ∷ ts) x y same e = go t.holds (rest_alike ts x y same) e
    where
      go : (b : Bool) → (late (first_of ts x) ≡ false → first_of ts y ≡ first_of ts x) → late (b then t.value otherwise first_of ts x) ≡ false
          → (b then t.value otherwise first_of ts y) ≡ (b then t.value otherwise first_of ts x)
      go true below h = refl
      go false below h = below h

  module _ (p : A → Bool) (b c : Bool) where
    told_all : (ts : List (Test A)) → all_give late ts ≡ true → all_give late (told p b ts) ≡ true
    unfolding all_give told
    told_all [] g = refl
    told_all (t ∷ ts) g = and_both (and_left _ _ g) (told_all ts (and_right _ _ g))

    pub told_alike : (ts : List (Test A)) (rest : A) → late rest ≡ true → late_from p late ts ≡ true
        → late (first_of (told p b ts) rest) ≡ false → first_of (told p c ts) rest ≡ first_of (told p b ts) rest
    unfolding first_of told late_from ◌then◌otherwise◌
    told_alike [] rest r g e = refl
    told_alike (t ∷ ts) rest r g e = go (p t.value) t.holds g (told_alike ts rest r) e
      where
        go : (k h : Bool) → (k then late t.value and all_give late ts otherwise late_from p late ts) ≡ true
            → (late_from p late ts ≡ true → late (first_of (told p b ts) rest) ≡ false → first_of (told p c ts) rest ≡ first_of (told p b ts) rest)
            → late ((k then b otherwise h) then t.value otherwise first_of (told p b ts) rest) ≡ false
            → ((k then c otherwise h) then t.value otherwise first_of (told p c ts) rest)
            ≡ ((k then b otherwise h) then t.value otherwise first_of (told p b ts) rest)
        go true h g below e = absurd (false≢true (sym e ∙ last b))
          where
            last : (b' : Bool) → late (b' then t.value otherwise first_of (told p b ts) rest) ≡ true
            last true = and_left _ _ g
            last false = all_first late (told p b ts) rest (told_all ts (and_right _ _ g)) r
        go false true g below e = refl
        go false false g below e = below g e

-- ---- rows of refusals: a call that isn't refused passed every row
unfoldable pub refuses : ℕ → Bool
refuses n = not (eqb n 0)

pub rows_passed : (rows : List (Test ℕ)) (below : ℕ) → all_give refuses rows ≡ true → eqb (first_of rows below) 0 ≡ true → NoneHolds rows
unfolding refuses
rows_passed rows below g e = none_holds refuses rows below g (ap not e)
