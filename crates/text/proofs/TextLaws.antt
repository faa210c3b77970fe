-- The laws of a text that grows. Each holds whatever there is room for, but that a whole text is `text_of` it, where it fits.
use Prim.Native.Nat.{min, ℕ, zero, suc, ◌+◌, ◌-◌, ◌≤◌, ◌<◌}
use native.Mathlib.Nat.{add-zero, sub-zero, suc-sub-suc}
use native.Mathlib.Omega.{arith}
use mathlib.Core.Bool.{Bool, true, false}
use mathlib.Core.List.{List, [], ◌∷◌, ◌++◌, append_assoc}
use mathlib.Core.Path.{◌≡◌, refl, sym, ap, ap₂, subst, ◌∙◌}
use lib.Dec.{ltb}
use lib.ListN.{length, take, drop, replicate, length-append, length-take, length-replicate, take-append-drop, replicate-append-replicate}
use lib.Seq.{take-nil, take_all, length-take-le}
use Rattle.std.proofs.lemmas.List.{take_min}
use borrow.Author.Tests.{ltb-true, ltb-false}
use Rattle.octets.specs.Part.{patch}
use Rattle.octets.proofs.Part.{patch_join, patch_length, patch_mid}
use Rattle.text.specs.Text.{text_size, text_of, fitting, appended}
use Rattle.text.specs.declared.Text.{Text}

-- the text of these bytes and this length
abbrev made : List ℕ → ℕ → Text
made bytes n = record { bytes = bytes; length = n }

-- two lists in a room of n
take_both : (n : ℕ) (x y : List ℕ) → take n (x ++ y) ≡ take n x ++ take (n - length (take n x)) y
take_both zero x y = refl
take_both (suc n) [] y = ap (λ (k : ℕ). take k y) (sym (sub-zero (suc n)))
take_both (suc n) (a ∷ x) y =
    ap (λ (r : List ℕ). a ∷ r)
    (take_both n x y ∙ ap (λ (k : ℕ). take n x ++ take k y) (sym (suc-sub-suc n (length (take n x)))))

module _ (t : Text) where
  -- nothing is written
  same_text : (x : List ℕ) → fitting t x ≡ [] → appended t x ≡ t
  unfolding appended patch
  same_text x e =
      let at : ℕ = t.length in
      let whole : take at t.bytes ++ drop (at + 0) t.bytes ≡ t.bytes =
      ap (λ (k : ℕ). take at t.bytes ++ drop k t.bytes) (add-zero at) ∙ take-append-drop at t.bytes in
      ap (λ (f : List ℕ). made (take at t.bytes ++ (f ++ drop (at + length f) t.bytes)) (at + length f)) e
      ∙ ap₂ made whole (add-zero at)

  pub appended_none : appended t [] ≡ t
  unfolding fitting
  appended_none = same_text [] (take-nil (length t.bytes - t.length))

  pub appended_full : (x : List ℕ) → length t.bytes ≤ t.length → appended t x ≡ t
  unfolding fitting
  appended_full x l =
      let none : length t.bytes - t.length ≡ 0 = omega arith in
      same_text x (ap (λ (k : ℕ). take k x) none)

  pub appended_whole : (x : List ℕ) → t.length + length x ≤ length t.bytes → made (patch t.bytes t.length x) (t.length + length x) ≡ appended t x
  unfolding appended fitting
  appended_whole x l =
      ap (λ (f : List ℕ). made (patch t.bytes t.length f) (t.length + length f)) (sym (take_all (length t.bytes - t.length) x (omega arith)))

  -- what there is room for, as code takes it
  pub appended_least : (x : List ℕ) (n : ℕ) → n ≡ min (length x) (length t.bytes - t.length)
      → made (patch t.bytes t.length (take n x)) (t.length + length (take n x)) ≡ appended t x
  unfolding appended fitting
  appended_least x n e =
      let room = length t.bytes - t.length in
      let r : take n x ≡ take room x = ap (λ (k : ℕ). take k x) (omega arith) ∙ take_min room x in
      ap (λ (f : List ℕ). made (patch t.bytes t.length f) (t.length + length f)) r

  -- text, and then more text
  pub appended_append : (x y : List ℕ) → appended (appended t x) y ≡ appended t (x ++ y)
  unfolding appended fitting
  appended_append x y = go (ltb t.length (length t.bytes)) refl
    where
      go : (b : Bool) → ltb t.length (length t.bytes) ≡ b → appended (appended t x) y ≡ appended t (x ++ y)
      go false e =
          let full : length t.bytes ≤ t.length = ltb-false t.length (length t.bytes) e in
          ap (λ (s : Text). appended s y) (appended_full x full) ∙ appended_full y full ∙ sym (appended_full (x ++ y) full)
      go true e =
          let some : t.length < length t.bytes = ltb-true t.length (length t.bytes) e in
          let room : ℕ = length t.bytes - t.length in
          let first : List ℕ = take room x in
          let at : ℕ = t.length + length first in
          let short : length first ≤ room = omega (arith, length-take room x) in
          let second : List ℕ = take (room - length first) y in
          let left : length (patch t.bytes t.length first) - at ≡ room - length first =
          omega (arith, patch_length t.bytes t.length first (omega arith)) in
          let shorter : length second ≤ room - length first = omega (arith, length-take (room - length first) y) in
          ap (λ (k : ℕ). made (patch (patch t.bytes t.length first) at (take k y)) (at + length (take k y))) left
          ∙ ap₂ made (patch_join t.bytes t.length at first second refl (omega arith)) (omega (arith, length-append first second))
          ∙ ap (λ (f : List ℕ). made (patch t.bytes t.length f) (t.length + length f)) (sym (take_both room x y))

-- a text from its start
pub appended_text : (x y : List ℕ) → length x + length y ≤ text_size → appended (text_of x) y ≡ text_of (x ++ y)
unfolding text_of
appended_text x y room =
    let n : ℕ = text_size - length (x ++ y) in
    let zeros : text_size - length x ≡ length y + n = omega (arith, length-append x y) in
    let wide : length (x ++ replicate (text_size - length x) 0) ≡ text_size =
    omega (arith, length-append x (replicate (text_size - length x) 0), length-replicate {A = ℕ} (text_size - length x) 0) in
    sym (appended_whole (text_of x) y (omega arith))
    ∙ ap₂ made
    (ap (λ (r : List ℕ). patch (x ++ r) (length x) y) (ap (λ (k : ℕ). replicate k 0) zeros ∙ sym (replicate-append-replicate (length y) n 0))
    ∙ patch_mid x (replicate (length y) 0) (replicate n 0) y (length x) refl (length-replicate (length y) 0)
    ∙ sym (append_assoc x y (replicate n 0)))
    (sym (length-append x y))

-- the characters of a text lie within its bytes: what a program asks that writes them out
module _ (t : Text) (x : List ℕ) (e : t ≡ text_of x) where
  pub text_within : t.length ≤ length t.bytes
  unfolding text_of
  text_within = subst (λ (s : Text). s.length ≤ length s.bytes) (sym e) (omega (arith, length-append x (replicate (text_size - length x) 0)))

  pub text_part : t.length ≡ length (take t.length t.bytes)
  text_part = sym (length-take-le t.length t.bytes text_within)
