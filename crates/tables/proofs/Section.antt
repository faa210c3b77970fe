-- Loops that write the records of a section, one after the other: one law for every table.
use Prim.Native.Nat.{ℕ, ◌+◌, ◌-◌, ◌*◌, ◌≤◌, ◌<◌}
use native.Mathlib.Nat.{add-zero, mul-le-mul_left}
use native.Mathlib.Numerals.{add-one}
use native.Mathlib.Omega.{arith}
use mathlib.Core.Bool.{Bool, true}
use mathlib.Core.List.{List, [], ◌∷◌, ◌++◌, append_assoc, map}
use mathlib.Core.Path.{◌≡◌, sym, ap, ap₂, ◌∙◌}
use lib.ListN.{length, get_or, take, drop, length-append, length-map, take-append-drop, get_or-map}
use lib.Seq.{drop_at, length-take-le, take-suc, take_all}
use borrow.Rule.Slice.PartMut.{put_mid}
use Rattle.octets.specs.Part.{part, patch, joined, fields}
use Rattle.octets.proofs.Index.{all_at}
use Rattle.octets.proofs.Part.{patch_length, patch_join, part_range, patch_range}
use Rattle.octets.proofs.Joined.{joined_append, joined_one, joined_length, fields_all}
use Rattle.tables.specs.Layout.{record_at, records, records_ok}
use Rattle.tables.proofs.Lent.{Lent, record_end}
use Rattle.tables.proofs.Chunks.{range}
use Rattle.tables.proofs.Seen.{record_seen, records_length}

-- what is written leaves what stands behind it
pub part_behind : (t x : List ℕ) (a k n : ℕ) → a + length x ≡ k → k ≤ length t → part (patch t a x) k n ≡ part t k n
unfolding part patch
part_behind t x a k n e fits =
    ap (take n)
    (ap (drop k) (sym (append_assoc (take a t) x (drop (a + length x) t)))
    ∙ drop_at (take a t ++ x) (drop (a + length x) t) k (length-append (take a t) x ∙ ap (λ (m : ℕ). m + length x) (length-take-le a t (omega arith)) ∙ e)
    ∙ ap (λ (m : ℕ). drop m t) e)

patch_none : (t : List ℕ) (a : ℕ) → patch t a [] ≡ t
unfolding patch
patch_none t a = ap (λ (k : ℕ). take a t ++ drop k t) (add-zero a) ∙ take-append-drop a t

-- t with the first i of xs written, from base on
abbrev pub up_to : {A : Type 0} → (A → List ℕ) → ℕ → List A → List ℕ → ℕ → List ℕ
up_to write base xs t i = patch t base (joined write (take i xs))

module _ {A : Type 0} {w : ℕ} {write : A → List ℕ} {read : List ℕ → A} {ok : List ℕ → Bool}
    (c : Lent w write read ok) (base : ℕ) (xs : List A) (t : List ℕ) where
  pub up_none : t ≡ up_to write base xs t 0
  unfolding joined
  up_none = sym (patch_none t base)

  pub up_all : (i : ℕ) → length xs ≤ i → up_to write base xs t i ≡ patch t base (joined write xs)
  up_all i l = ap (λ (ys : List A). patch t base (joined write ys)) (take_all i xs l)

  module _ (fits : base + w * length xs ≤ length t) (i : ℕ) where
    first_length : i ≤ length xs → length (joined write (take i xs)) ≡ w * i
    first_length l = joined_length write w c.wide (take i xs) ∙ ap (λ (k : ℕ). w * k) (length-take-le i xs l)

    pub up_length : i ≤ length xs → length (up_to write base xs t i) ≡ length t
    up_length l =
        let k = mul-le-mul_left w l in
        patch_length t base (joined write (take i xs)) (omega (arith, first_length l, k))

    module _ (l : i < length xs) where
      long : length (joined write (take i xs)) ≡ w * i
      long = first_length (omega arith)

      within : base + w * i + w ≤ length t
      within = omega (arith, record_end base w (length xs) i l)

      -- record i is still as it was
      pub up_kept : record_at base w (up_to write base xs t i) i ≡ record_at base w t i
      up_kept = part_behind t (joined write (take i xs)) base (base + w * i) w (omega (arith, long)) (omega (arith, within))

      pub up_more : (d : A) → patch (up_to write base xs t i) (base + w * i) (write (get_or xs i d)) ≡ up_to write base xs t (i + 1)
      up_more d =
          let x : A = get_or xs i d in
          patch_join t base (base + w * i) (joined write (take i xs)) (write x) (omega (arith, long)) (omega (arith, within, c.wide x))
          ∙ ap (patch t base)
          (ap (λ (r : List ℕ). joined write (take i xs) ++ r) (sym (joined_one write x))
          ∙ sym (joined_append write (take i xs) (x ∷ []))
          ∙ ap (joined write) (sym (take-suc xs i d l) ∙ ap (λ (k : ℕ). take k xs) (sym (add-one i))))

-- ---- each record is lent, and gets its new value
module _ {A : Type 0} {w : ℕ} {write : A → List ℕ} {read : List ℕ → A} {ok : List ℕ → Bool}
    (c : Lent w write read ok) (base n : ℕ) (d : A) (f : A → A)
    (t : List ℕ) (fits : base + w * n ≤ length t) where
  abbrev new : List A
  new = map f (records read base w n t)

  new_length : length new ≡ n
  new_length = length-map (records read base w n t) f ∙ records_length read base w n t

  room : base + w * length new ≤ length t
  room = rw new_length fits

  pub changed_all : (t' : List ℕ) (i : ℕ) → n ≤ i → t' ≡ up_to write base new t i → t' ≡ patch t base (fields write n d new)
  changed_all t' i l e =
      e ∙ up_all c base new t i (omega (arith, new_length)) ∙ ap (patch t base) (sym (fields_all write n d new new_length))

  module _ (t' : List ℕ) (i : ℕ) (l : i < n) (e : t' ≡ up_to write base new t i) where
    abbrev at : ℕ
    at = base + w * i

    below : i < length new
    below = omega (arith, new_length)

    kept : range t' at w ≡ record_at base w t i
    kept = part_range t' at w ∙ ap (λ (x : List ℕ). record_at base w x i) e ∙ up_kept c base new t room i below

    pub lent_ok : records_ok ok base w n t ≡ true → ok (range t' at w) ≡ true
    unfolding records_ok
    lent_ok h = ap ok kept ∙ all_at (λ k. ok (record_at base w t k)) n i h l

    module _ (x : List ℕ) (q : x ≡ write (f (read (range t' at w)))) where
      pub changed_more : put_mid at (at + w - at) t' x ≡ up_to write base new t (i + 1)
      changed_more =
          ap₂ (λ (u v : List ℕ). put_mid at (at + w - at) u v) e (q ∙ ap write value)
          ∙ patch_range (up_to write base new t i) at w (write (get_or new i (f d))) (c.wide (get_or new i (f d)))
          ∙ up_more c base new t room i below (f d)
        where
          value : f (read (range t' at w)) ≡ get_or new i (f d)
          value =
              ap (λ (y : List ℕ). f (read y)) kept
              ∙ ap f (sym (record_seen read base w n t i d l))
              ∙ sym (get_or-map f (records read base w n t) i d)

      pub changed_length : length (put_mid at (at + w - at) t' x) ≡ length t
      changed_length = ap length changed_more ∙ up_length c base new t room (i + 1) (omega (arith, new_length))
