-- Forms: how a value is laid out, said as data. Everything else follows from a form: its code, the code's laws, the places of its parts.
use Rattle.std.specs.Prelude.{ℕ, ◌+◌, ◌≤◌, Bool, true, false, List, ◌≡◌}
use Prim.Native.String.{String}
use lib.Text.{eqt}
use Rattle.codes.specs.Code.{Code}
use Rattle.codes.specs.Codes.{byte_code, mark_code, number_code, octets_code, given_code, both_code, many_code, Slot, slot_code, that_code, as_code, first_code}

infixr 30 ◌&◌
pub data Form : Type 0 → Type 1 where
  -- one byte; a mark, 0 or 1; a number in n bytes, the highest first; n bytes; no bytes, always v
  byte : Form ℕ
  mark : Form Bool
  number_in : ℕ → Form ℕ
  octets_in : ℕ → Form (List ℕ)
  given : {A : Type 0} → A → Form A
  -- a field of a record, by its name
  field : {A : Type 0} → String → Form A → Form A
  -- one after the other; n in a row
  ◌&◌ : {A B : Type 0} → Form A → Form B → Form (A × B)
  many : {A : Type 0} → ℕ → A → Form A → Form (List A)
  -- n in a row, of which the first m are written
  firsts_of : {A : Type 0} (m n : ℕ) → m ≤ n → A → Form A → Form (List A)
  -- unused, or a record behind a mark
  slot : {A : Type 0} → Form A → Form (Slot A)
  -- those that keep a rule
  that : {A : Type 0} → (A → Bool) → Form A → Form A
  -- a record for the tuple of its fields
  as_record : {A B : Type 0} (to : A → B) (from : B → A) → ((x : A) → from (to x) ≡ x) → ((y : B) → to (from y) ≡ y) → Form A → Form B

abbrev pub code : {A : Type 0} → Form A → Code A
code byte = byte_code
code mark = mark_code
code (number_in n) = number_code n
code (octets_in n) = octets_code n
code (given v) = given_code v
code (field name f) = code f
code (f & g) = both_code (code f) (code g)
code (many n spare f) = many_code n spare (code f)
code (firsts_of m n l spare f) = first_code m n spare (code f)
code (slot f) = slot_code (code f)
code (that rule f) = that_code rule (code f)
code (as_record to from same there f) = as_code to from (code f)

abbrev pub one_of : {A : Type 0} → Bool → A → A → A
one_of true x y = x
one_of false x y = y

-- ---- the fields of a record stand one after the other. A field's own fields are not among them
abbrev pub has_field : {A : Type 0} → Form A → String → Bool
has_field byte k = false
has_field mark k = false
has_field (number_in n) k = false
has_field (octets_in n) k = false
has_field (given v) k = false
has_field (field name f) k = eqt name k
has_field (f & g) k = one_of (has_field f k) true (has_field g k)
has_field (many n spare f) k = false
has_field (firsts_of m n l spare f) k = false
has_field (slot f) k = false
has_field (that rule f) k = has_field f k
has_field (as_record to from same there f) k = has_field f k

-- where the field of that name starts
abbrev pub place_of : {A : Type 0} → Form A → String → ℕ
place_of byte k = 0
place_of mark k = 0
place_of (number_in n) k = 0
place_of (octets_in n) k = 0
place_of (given v) k = 0
place_of (field name f) k = 0
place_of (f & g) k = one_of (has_field f k) (place_of f k) ((code f).width + place_of g k)
place_of (many n spare f) k = 0
place_of (firsts_of m n l spare f) k = 0
place_of (slot f) k = 0
place_of (that rule f) k = place_of f k
place_of (as_record to from same there f) k = place_of f k
