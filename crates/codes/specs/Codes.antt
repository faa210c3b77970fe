-- The codes, and how they are put together.
use Rattle.std.specs.Prelude.{ℕ, ◌+◌, ◌*◌, ◌^◌, ◌<◌, Bool, true, List, [], ◌∷◌, ◌++◌, ◌≡◌, eqb, ltb, length, get_or, replicate}
use Rattle.octets.specs.Bytes.{Bytes}
use Rattle.octets.specs.Index.{◌and◌, all_below, list_of, zeros}
use Rattle.octets.specs.Choice.{◌then◌otherwise◌}
use Rattle.octets.specs.Part.{part, fields}
use Rattle.octets.specs.BigEndian.{number, big_endian}
use Rattle.codes.specs.Code.{Code}

-- ---- one field
abbrev pub byte_code : Code ℕ
byte_code = record { width = 1; read = λ t a. get_or t a 0; write = λ x. x ∷ []; fine = λ t a. true; Good = λ x. x < 256 }

unfoldable pub mark_of : Bool → ℕ
mark_of answer = answer then 1 otherwise 0

-- 1 yes, 0 no
abbrev pub mark_code : Code Bool
mark_code =
    record {
      width = 1;
      read = λ t a. eqb (get_or t a 0) 1;
      write = λ x. mark_of x ∷ [];
      fine = λ t a. ltb (get_or t a 0) 2;
      Good = λ x. Unit;
    }

-- a number, the highest byte first
abbrev pub number_code : ℕ → Code ℕ
number_code n =
    record { width = n; read = λ t a. number (part t a n); write = big_endian n; fine = λ t a. true; Good = λ x. x < 256 ^ n }

-- n bytes of a list, with zeros for those that it lacks: one width, whatever the list
unfoldable pub exactly : ℕ → List ℕ → List ℕ
exactly n xs = list_of (λ i. get_or xs i 0) n

abbrev pub octets_code : ℕ → Code (List ℕ)
octets_code n =
    record {
      width = n;
      read = λ t a. part t a n;
      write = exactly n;
      fine = λ t a. true;
      Good = λ xs. (length xs ≡ n) × Bytes xs;
    }

-- a field that an edition lacks: no bytes, always v
abbrev pub given_code : {A : Type 0} → A → Code A
given_code v = record { width = 0; read = λ t a. v; write = λ x. []; fine = λ t a. true; Good = λ x. x ≡ v }

-- ---- fields together
abbrev pub both_code : {A B : Type 0} → Code A → Code B → Code (A × B)
both_code c d =
    record {
      width = c.width + d.width;
      read = λ t a. (c.read t a, d.read t (a + c.width));
      write = λ x. c.write x.0 ++ d.write x.1;
      fine = λ t a. c.fine t a and d.fine t (a + c.width);
      Good = λ x. c.Good x.0 × d.Good x.1;
    }

-- n in a row, each read as the slice of its bytes, as code lends it; `spare` is written where a list is too short
abbrev pub many_code : {A : Type 0} → ℕ → A → Code A → Code (List A)
many_code n spare c =
    record {
      width = c.width * n;
      read = λ t a. list_of (λ i. c.read (part t (a + c.width * i) c.width) 0) n;
      write = fields c.write n spare;
      fine = λ t a. all_below (λ i. c.fine (part t (a + c.width * i) c.width) 0) n;
      Good = λ xs. (length xs ≡ n) × ((i : ℕ) → i < n → c.Good (get_or xs i spare));
    }

-- ---- a slot: unused, or a record behind a mark. An unused one is all zeros
pub data Slot (A : Type 0) : Type 0 where
  empty : Slot A
  used : A → Slot A

unfoldable pub slot_bytes : {A : Type 0} → ℕ → (A → List ℕ) → Slot A → List ℕ
slot_bytes width record_bytes empty = replicate width 0
slot_bytes width record_bytes (used x) = 1 ∷ record_bytes x

abbrev pub GoodSlot : {A : Type 0} → (A → Type 0) → Slot A → Type 0
GoodSlot Good empty = Unit
GoodSlot Good (used x) = Good x

abbrev pub slot_code : {A : Type 0} → Code A → Code (Slot A)
slot_code c =
    record {
      width = 1 + c.width;
      read = λ t a. eqb (get_or t a 0) 0 then empty otherwise used (c.read t (a + 1));
      write = slot_bytes (1 + c.width) c.write;
      fine = λ t a.
          eqb (get_or t a 0) 0 then zeros (1 + c.width) (part t a (1 + c.width)) otherwise
          eqb (get_or t a 0) 1 and c.fine t (a + 1);
      Good = GoodSlot c.Good;
    }

abbrev pub InUse : {A : Type 0} → Slot A → Type 0
InUse empty = ⊥
InUse (used x) = Unit

-- the record of a slot in use
unfoldable pub record_of : {A : Type 0} → A → Slot A → A
record_of d empty = d
record_of d (used x) = x

-- ---- a rule on top
abbrev pub that_code : {A : Type 0} → (A → Bool) → Code A → Code A
that_code rule c =
    record {
      width = c.width;
      read = c.read;
      write = c.write;
      fine = λ t a. c.fine t a and rule (c.read t a);
      Good = λ x. c.Good x × (rule x ≡ true);
    }

-- ---- the same bytes for another type: `to` and `from` undo each other, as between a record and the tuple of its fields
abbrev pub as_code : {A B : Type 0} → (A → B) → (B → A) → Code A → Code B
as_code to from c =
    record {
      width = c.width;
      read = λ t a. to (c.read t a);
      write = λ y. c.write (from y);
      fine = c.fine;
      Good = λ y. c.Good (from y);
    }

-- the same where not every value comes of bytes, as a longer list of a shorter one: the good values are those that do
abbrev pub into_code : {A B : Type 0} → (A → B) → (B → A) → Code A → Code B
into_code to from c =
    record {
      width = c.width;
      read = λ t a. to (c.read t a);
      write = λ y. c.write (from y);
      fine = c.fine;
      Good = λ y. c.Good (from y) × (to (from y) ≡ y);
    }

-- n elements of a list, with `spare` for those that it lacks
unfoldable pub fill : {A : Type 0} → ℕ → A → List A → List A
fill n spare xs = list_of (λ i. get_or xs i spare) n

-- a list of n of which the first m are written, the others being spare: an edition with less room
abbrev pub first_code : {A : Type 0} → ℕ → ℕ → A → Code A → Code (List A)
first_code m n spare c = into_code (fill n spare) (fill m spare) (many_code m spare c)
