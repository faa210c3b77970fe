-- Where a part of a value stands in its bytes, and what writing over that part does.
use Prim.Native.Nat.{ℕ, ◌+◌, ◌*◌, ◌≤◌, ◌<◌}
use native.Mathlib.Nat.{add_assoc, add-zero, zero-add}
use native.Mathlib.Omega.{arith}
use mathlib.Core.Bool.{Bool, true, false}
use mathlib.Core.List.{List, [], ◌∷◌, ◌++◌, append-nil, append_assoc}
use mathlib.Core.Path.{◌≡◌, refl, sym, ap, ap₂, subst, ◌∙◌}
use lib.Dec.{eqb}
use lib.ListN.{length, get_or, set, take, drop, length-drop}
use lib.Seq.{drop-drop, drop_at, take-append-le, drop-append-le, take-append-add, drop-append-add}
use Rattle.octets.specs.Choice.{◌then◌otherwise◌}
use Rattle.octets.specs.Part.{part, patch, fields}
use Rattle.octets.proofs.Index.{and_left, and_right, all_at}
use Rattle.octets.proofs.ListOf.{list_of_at}
use Rattle.octets.proofs.Part.{part_part, part_whole, patch_mid, patch_whole, patch_part}
use Rattle.octets.proofs.Joined.{patch_field}
use Rattle.codes.specs.Code.{Code}
use Rattle.codes.specs.Codes.{both_code, many_code, Slot, empty, used, slot_bytes, slot_code, InUse, record_of, that_code, as_code}
use Rattle.codes.proofs.Same.{same_tail}
use Rattle.codes.proofs.Law.{Lawful, sees_part, tests_part}
use Rattle.codes.proofs.Many.{many_end, row_there}

-- `Has` is what a value must be to have the part: a list its length, a slot in use
pub record Place {A B : Type 0} (whole : Code A) (inner : Code B) : Type 1 where
  pub offset : ℕ
  pub get : A → B
  pub put : B → A → A
  pub Has : A → Type 0
  pub inside : offset + inner.width ≤ whole.width
  -- the part is read at its offset
  pub seen : (t : List ℕ) (a : ℕ) → Has (whole.read t a) → inner.read t (a + offset) ≡ get (whole.read t a)
  pub tested : (t : List ℕ) (a : ℕ) → Has (whole.read t a) → whole.fine t a ≡ true → inner.fine t (a + offset) ≡ true
  -- it stands there
  pub there : (x : A) → Has x → part (whole.write x) offset inner.width ≡ inner.write (get x)
  -- writing over it changes it alone
  pub patched : (x : A) (y : B) → Has x → patch (whole.write x) offset (inner.write y) ≡ whole.write (put y x)
  -- what the whole can hold, the part can
  pub good : (x : A) → Has x → whole.Good x → inner.Good (get x)

-- ---- the whole
abbrev pub all_of : {A : Type 0} {c : Code A} → Lawful c → Place c c
all_of {A} {c} p =
    record {
      offset = 0;
      get = λ x. x;
      put = λ y x. y;
      Has = λ x. Unit;
      inside = omega arith;
      seen = λ t a h. ap (c.read t) (add-zero a);
      tested = λ t a h f. ap (c.fine t) (add-zero a) ∙ f;
      there = λ x h. part_whole (c.write x) c.width (p.wide x);
      patched = λ x y h. patch_whole (c.write x) (c.write y) (p.wide y ∙ sym (p.wide x));
      good = λ x h g. g;
    }

-- ---- a part of the first of two, and of the second
module _ (x y : List ℕ) where
  pub part_ahead : (k n : ℕ) → k + n ≤ length x → part (x ++ y) k n ≡ part x k n
  unfolding part
  part_ahead k n l =
      let inside : k ≤ length x = omega arith in
      let enough : n ≤ length (drop k x) = simp length-drop (omega arith) in
      rw (drop-append-le, take-append-le)

  pub patch_ahead : (k : ℕ) (z : List ℕ) → k + length z ≤ length x → patch (x ++ y) k z ≡ patch x k z ++ y
  unfolding patch
  patch_ahead k z l =
      let inside : k ≤ length x = omega arith in
      rw (take-append-le, drop-append-le) (simp append_assoc)

abbrev pub first_of : {A B C : Type 0} {c : Code A} {e : Code C} (d : Code B) → Lawful c → Lawful e → Place c e → Place (both_code c d) e
first_of {A} {B} {C} {c} {e} d p q s =
    record {
      offset = s.offset;
      get = λ x. s.get x.0;
      put = λ z x. (s.put z x.0, x.1);
      Has = λ x. s.Has x.0;
      inside = omega (arith, s.inside);
      seen = λ t a h. s.seen t a h;
      tested = λ t a h f. s.tested t a h (and_left _ _ f);
      there = λ x h.
          part_ahead (c.write x.0) (d.write x.1) s.offset e.width (omega (arith, s.inside, p.wide x.0)) ∙ s.there x.0 h;
      patched = λ x z h.
          patch_ahead (c.write x.0) (d.write x.1) s.offset (e.write z) (omega (arith, s.inside, p.wide x.0, q.wide z))
          ∙ ap (λ (r : List ℕ). r ++ d.write x.1) (s.patched x.0 z h);
      good = λ x h g. s.good x.0 h g.0;
    }

module _ (x y : List ℕ) (a : ℕ) (lx : length x ≡ a) where
  pub part_skip : (k n : ℕ) → part (x ++ y) (a + k) n ≡ part y k n
  unfolding part
  part_skip k n = ap (take n) (sym (drop-drop k a (x ++ y)) ∙ ap (drop k) (drop_at x y a lx))

  pub patch_skip : (k : ℕ) (z : List ℕ) → patch (x ++ y) (a + k) z ≡ x ++ patch y k z
  unfolding patch
  patch_skip k z = rw (← lx, add_assoc (length x) k (length z), take-append-add, drop-append-add, append_assoc)

abbrev pub next_of : {A B C : Type 0} {c : Code A} {d : Code B} {e : Code C} → Lawful c → Place d e → Place (both_code c d) e
next_of {A} {B} {C} {c} {d} {e} p s =
    record {
      offset = c.width + s.offset;
      get = λ x. s.get x.1;
      put = λ z x. (x.0, s.put z x.1);
      Has = λ x. s.Has x.1;
      inside = omega (arith, s.inside);
      seen = λ t a h. ap (e.read t) (sym (add_assoc a c.width s.offset)) ∙ s.seen t (a + c.width) h;
      tested = λ t a h f. ap (e.fine t) (sym (add_assoc a c.width s.offset)) ∙ s.tested t (a + c.width) h (and_right _ _ f);
      there = λ x h.
          part_skip (c.write x.0) (d.write x.1) c.width (p.wide x.0) s.offset e.width ∙ s.there x.1 h;
      patched = λ x z h.
          patch_skip (c.write x.0) (d.write x.1) c.width (p.wide x.0) s.offset (e.write z)
          ∙ ap (λ (r : List ℕ). c.write x.0 ++ r) (s.patched x.1 z h);
      good = λ x h g. s.good x.1 h g.1;
    }

-- ---- record i of n
module _ {A : Type 0} (n : ℕ) (spare : A) {c : Code A} (p : Lawful c) (i : ℕ) (l : i < n) where
  pub item_patched : (xs : List A) (y : A) → length xs ≡ n
      → patch (fields c.write n spare xs) (c.width * i) (c.write y) ≡ fields c.write n spare (set xs i y)
  item_patched xs y e =
      ap₂ (λ (r : List ℕ) (k : ℕ). patch r k (c.write y)) (sym (append-nil (fields c.write n spare xs))) (sym (zero-add (c.width * i)))
      ∙ patch_field c.write n spare c.width p.wide [] [] 0 xs i y refl e l
      ∙ append-nil (fields c.write n spare (set xs i y))

  abbrev pub item_of : Place (many_code n spare c) c
  item_of =
      record {
        offset = c.width * i;
        get = λ xs. get_or xs i spare;
        put = λ y xs. set xs i y;
        Has = λ xs. length xs ≡ n;
        inside = many_end c.width n i l;
        seen = λ t a h.
            sym (list_of_at (λ k. c.read (part t (a + c.width * k) c.width) 0) n i spare l ∙ sees_part p t (a + c.width * i));
        tested = λ t a h f. sym (tests_part p t (a + c.width * i)) ∙ all_at _ n i f l;
        there = λ xs h. ap (λ (k : ℕ). part (fields c.write n spare xs) k c.width) (sym (zero-add (c.width * i))) ∙ row_there n spare p xs h i l;
        patched = item_patched;
        good = λ xs h g. g.1 i l;
      }

-- ---- the record of a slot in use
module _ {A : Type 0} (d : A) {c : Code A} (p : Lawful c) where
  pub record_seen : (t : List ℕ) (a : ℕ) → InUse ((slot_code c).read t a) → c.read t (a + 1) ≡ record_of d ((slot_code c).read t a)
  unfolding record_of ◌then◌otherwise◌
  record_seen t a h = go (eqb (get_or t a 0) 0) refl
    where
      go : (m : Bool) → eqb (get_or t a 0) 0 ≡ m → c.read t (a + 1) ≡ record_of d ((slot_code c).read t a)
      go true q = absurd (rw q at h)
      go false q = rw q

  pub record_tested : (t : List ℕ) (a : ℕ) → InUse ((slot_code c).read t a) → (slot_code c).fine t a ≡ true → c.fine t (a + 1) ≡ true
  unfolding ◌then◌otherwise◌
  record_tested t a h f = go (eqb (get_or t a 0) 0) refl
    where
      go : (m : Bool) → eqb (get_or t a 0) 0 ≡ m → c.fine t (a + 1) ≡ true
      go true q = absurd (rw q at h)
      go false q = and_right (eqb (get_or t a 0) 1) _ (rw q at f)

  pub record_there : (s : Slot A) → InUse s → part (slot_bytes (1 + c.width) c.write s) 1 c.width ≡ c.write (record_of d s)
  unfolding slot_bytes record_of
  record_there empty h = absurd h
  record_there (used x) h = same_tail (1 ∷ []) (c.write x) 1 c.width refl (p.wide x) ∙ part_whole (c.write x) c.width (p.wide x)

  record_patched : (s : Slot A) (y : A) → InUse s → patch (slot_bytes (1 + c.width) c.write s) 1 (c.write y) ≡ 1 ∷ c.write y
  unfolding slot_bytes
  record_patched empty y h = absurd h
  record_patched (used x) y h =
      ap (λ (r : List ℕ). patch (1 ∷ r) 1 (c.write y)) (sym (append-nil (c.write x)))
      ∙ patch_mid (1 ∷ []) (c.write x) [] (c.write y) 1 refl (p.wide x ∙ sym (p.wide y))
      ∙ ap (λ (r : List ℕ). 1 ∷ r) (append-nil (c.write y))

  pub used_patched : (s : Slot A) (y : A) → InUse s
      → patch (slot_bytes (1 + c.width) c.write s) 1 (c.write y) ≡ slot_bytes (1 + c.width) c.write (used y)
  unfolding slot_bytes
  used_patched s y h = record_patched s y h

  pub record_good : (s : Slot A) → InUse s → (slot_code c).Good s → c.Good (record_of d s)
  unfolding record_of
  record_good empty h g = absurd h
  record_good (used x) h g = g

  abbrev pub record_of_lem : Place (slot_code c) c
  record_of_lem =
      record {
        offset = 1;
        get = record_of d;
        put = λ y s. used y;
        Has = InUse;
        inside = omega arith;
        seen = record_seen;
        tested = record_tested;
        there = record_there;
        patched = used_patched;
        good = record_good;
      }

-- ---- through a rule, and through another type
abbrev pub under_rule : {A B : Type 0} {c : Code A} {d : Code B} (rule : A → Bool) → Place c d → Place (that_code rule c) d
under_rule rule s =
    record {
      offset = s.offset;
      get = s.get;
      put = s.put;
      Has = s.Has;
      inside = s.inside;
      seen = s.seen;
      tested = λ t a h f. s.tested t a h (and_left _ _ f);
      there = s.there;
      patched = s.patched;
      good = λ x h g. s.good x h g.0;
    }

abbrev pub under_type : {A B C : Type 0} {c : Code A} {d : Code C} (to : A → B) (from : B → A)
    → ((x : A) → from (to x) ≡ x)
    → Place c d → Place (as_code to from c) d
under_type {A} {B} {C} {c} {d} to from same s =
    record {
      offset = s.offset;
      get = λ y. s.get (from y);
      put = λ z y. to (s.put z (from y));
      Has = λ y. s.Has (from y);
      inside = s.inside;
      seen = λ t a h. s.seen t a (subst s.Has (same (c.read t a)) h) ∙ ap s.get (sym (same (c.read t a)));
      tested = λ t a h f. s.tested t a (subst s.Has (same (c.read t a)) h) f;
      there = λ y h. s.there (from y) h;
      patched = λ y z h. s.patched (from y) z h ∙ ap c.write (sym (same (s.put z (from y))));
      good = λ y h g. s.good (from y) h g;
    }

-- ---- a part of a part
module _ {A B C : Type 0} {c : Code A} {d : Code B} {e : Code C} (pc : Lawful c) (pe : Lawful e) (s : Place c d) (r : Place d e) where
  abbrev pub deeper : Place c e
  deeper =
      record {
        offset = s.offset + r.offset;
        get = λ x. r.get (s.get x);
        put = λ z x. s.put (r.put z (s.get x)) x;
        Has = λ x. s.Has x × r.Has (s.get x);
        inside = omega (arith, s.inside, r.inside);
        seen = λ t a h.
            ap (e.read t) (sym (add_assoc a s.offset r.offset))
            ∙ r.seen t (a + s.offset) (subst r.Has (sym (s.seen t a h.0)) h.1)
            ∙ ap r.get (s.seen t a h.0);
        tested = λ t a h f.
            ap (e.fine t) (sym (add_assoc a s.offset r.offset))
            ∙ r.tested t (a + s.offset) (subst r.Has (sym (s.seen t a h.0)) h.1) (s.tested t a h.0 f);
        there = λ x h.
            sym (part_part (c.write x) s.offset d.width r.offset e.width r.inside)
            ∙ ap (λ (q : List ℕ). part q r.offset e.width) (s.there x h.0)
            ∙ r.there (s.get x) h.1;
        patched = λ x z h.
            sym
            (patch_part (c.write x) s.offset d.width r.offset (e.write z) (omega (arith, r.inside, pe.wide z))
            (omega (arith, s.inside, pc.wide x)))
            ∙ ap (λ (q : List ℕ). patch (c.write x) s.offset (patch q r.offset (e.write z))) (s.there x h.0)
            ∙ ap (patch (c.write x) s.offset) (r.patched (s.get x) z h.1)
            ∙ s.patched x (r.put z (s.get x)) h.0;
        good = λ x h g. r.good (s.get x) h.1 (s.good x h.0 g);
      }

-- ---- the same in a table that holds the value among others, from a on
module _ {A B : Type 0} {c : Code A} {d : Code B} (p : Lawful c) (q : Lawful d) (s : Place c d) where
  pub patched_at : (t : List ℕ) (a : ℕ) (x : A) (y : B) → part t a c.width ≡ c.write x → a + c.width ≤ length t → s.Has x
      → patch t (a + s.offset) (d.write y) ≡ patch t a (c.write (s.put y x))
  patched_at t a x y e l h =
      sym (patch_part t a c.width s.offset (d.write y) (omega (arith, s.inside, q.wide y)) l)
      ∙ ap (λ (r : List ℕ). patch t a (patch r s.offset (d.write y))) e
      ∙ ap (patch t a) (s.patched x y h)
