-- Where a part of a form stands: the places of Places, found from the form alone.
use Prim.Native.Nat.{ℕ, ◌<◌}
use Prim.Native.String.{String}
use native.Mathlib.Nat.{zero-add}
use mathlib.Core.Bool.{Bool, true, false}
use mathlib.Core.List.{List}
use mathlib.Core.Path.{◌≡◌, sym, ap, ◌∙◌}
use lib.ListN.{length}
use Rattle.octets.specs.Bytes.{Bytes}
use Rattle.octets.specs.Part.{patch}
use Rattle.codes.specs.Form.{Form, byte, mark, number_in, octets_in, given, field, ◌&◌, many, firsts_of, slot, that, as_record, code, has_field}
use Rattle.codes.proofs.Law.{whole_again}
use Rattle.codes.proofs.Forms.{lawful}
use Rattle.codes.proofs.Places.{Place, all_of, first_of, next_of, item_of, record_of_lem, under_rule, under_type, deeper}

pub record Inside {A B : Type 0} (f : Form A) (g : Form B) : Type 1 where
  pub place : Place (code f) (code g)

-- the whole; a part of the first of two, and of the second
abbrev pub here : {A : Type 0} {f : Form A} → Inside f f
here {A} {f} = record { place = all_of (lawful f) }

abbrev pub first : {A B C : Type 0} {f : Form A} {g : Form B} {h : Form C} → Inside f h → Inside (f & g) h
first {A} {B} {C} {f} {g} {h} s = record { place = first_of (code g) (lawful f) (lawful h) s.place }

abbrev pub next : {A B C : Type 0} {f : Form A} {g : Form B} {h : Form C} → Inside g h → Inside (f & g) h
next {A} {B} {C} {f} {g} {h} s = record { place = next_of (lawful f) s.place }

-- record i of n; the record of a slot in use
abbrev pub item : {A : Type 0} {n : ℕ} {spare : A} {f : Form A} (i : ℕ) → i < n → Inside (many n spare f) f
item {A} {n} {spare} {f} i l = record { place = item_of n spare (lawful f) i l }

abbrev pub in_slot : {A : Type 0} (d : A) {f : Form A} → Inside (slot f) f
in_slot d {f} = record { place = record_of_lem d (lawful f) }

-- through a rule, and through a record
abbrev pub in_rule : {A B : Type 0} {rule : A → Bool} {f : Form A} {g : Form B} → Inside f g → Inside (that rule f) g
in_rule {A} {B} {rule} {f} {g} s = record { place = under_rule rule s.place }

abbrev pub in_record : {A B C : Type 0} {to : A → B} {from : B → A} {same : (x : A) → from (to x) ≡ x} {there : (y : B) → to (from y) ≡ y}
    {f : Form A} {g : Form C}
    → Inside f g → Inside (as_record to from same there f) g
in_record {A} {B} {C} {to} {from} {same} {there} {f} {g} s = record { place = under_type to from same s.place }

-- a part of a part
infixr 30 ◌within◌
abbrev pub ◌within◌ : {A B C : Type 0} {f : Form A} {g : Form B} {h : Form C} → Inside g h → Inside f g → Inside f h
◌within◌ {A} {B} {C} {f} {g} {h} r s = record { place = deeper (lawful f) (lawful h) s.place r.place }

-- ---- a field by its name; the whole where the form has none of that name
pub record Named {A : Type 0} (f : Form A) : Type 1 where
  pub Value : Type 0
  pub form : Form Value
  pub inside : Inside f form

abbrev pub whole : {A : Type 0} (f : Form A) → Named f
whole {A} f = record { Value = A; form = f; inside = here }

abbrev pub one_named : {A : Type 0} {f : Form A} → Bool → Named f → Named f → Named f
one_named true m n = m
one_named false m n = n

abbrev pub named : {A : Type 0} (f : Form A) → String → Named f
named byte k = whole byte
named mark k = whole mark
named (number_in n) k = whole (number_in n)
named (octets_in n) k = whole (octets_in n)
named (given v) k = whole (given v)
named {A} (field name f) k = record { Value = A; form = f; inside = record { place = all_of (lawful f) } }
named (f & g) k =
    one_named (has_field f k)
    (record { Value = (named f k).Value; form = (named f k).form; inside = first (named f k).inside })
    (record { Value = (named g k).Value; form = (named g k).form; inside = next (named g k).inside })
named (many n spare f) k = whole (many n spare f)
named (firsts_of m n l spare f) k = whole (firsts_of m n l spare f)
named (slot f) k = whole (slot f)
named (that rule f) k = record { Value = (named f k).Value; form = (named f k).form; inside = in_rule (named f k).inside }
named (as_record to from same there f) k =
    record { Value = (named f k).Value; form = (named f k).form; inside = in_record (named f k).inside }

-- ---- tables that are well formed: a part of what they hold is read at its offset, and changed by writing over it there
module _ {A B : Type 0} {f : Form A} {g : Form B} (s : Inside f g) (t : List ℕ) (h : s.place.Has ((code f).read t 0)) where
  pub read_part : (code g).read t s.place.offset ≡ s.place.get ((code f).read t 0)
  read_part = ap ((code g).read t) (sym (zero-add s.place.offset)) ∙ s.place.seen t 0 h

  pub write_part : Bytes t → length t ≡ (code f).width → (code f).fine t 0 ≡ true → (y : B)
      → patch t s.place.offset ((code g).write y) ≡ (code f).write (s.place.put y ((code f).read t 0))
  write_part b e ok y =
      ap (λ (u : List ℕ). patch u s.place.offset ((code g).write y)) (sym (whole_again (lawful f) t b e ok))
      ∙ s.place.patched ((code f).read t 0) y h
