-- What holds of what is noted, whichever the note.
use Prim.Native.Nat.{ℕ}
use mathlib.Core.Bool.{true}
use mathlib.Core.List.{List, [], ◌∷◌}
use mathlib.Core.Path.{◌≡◌, refl, ap}
use lib.Dec.{ltb}
use lib.ListN.{get_or}
use Rattle.codes.specs.Codes.{mark_of}
use Rattle.codes.specs.Form.{code}
use Rattle.notes.specs.Notes.{no_notes, noted, notes_form, notes_bytes, notes_shaped}
use Rattle.notes.specs.declared.Notes.{Notes}
use Rattle.notes.specs.declared.Note.{Note}
use Rattle.notes.specs.declared.Note.TheVariants.{Unresponsive}

-- no note takes a mark away
pub keeps_mark : (note : Note) (n : Notes) → n.marked ≡ true → (noted note n).marked ≡ true
keeps_mark Unresponsive n h = refl

-- ---- bytes can hold them
pub none_shaped : notes_shaped no_notes ≡ true
unfolding notes_shaped
none_shaped = refl

pub noted_shaped : (note : Note) (n : Notes) → notes_shaped n ≡ true → notes_shaped (noted note n) ≡ true
unfolding notes_shaped
noted_shaped Unresponsive n h = refl

-- those of the shape are those that the layout can write
pub notes_good : (n : Notes) → notes_shaped n ≡ true → (code notes_form).Good n
notes_good n h = tt

pub notes_shaped_lem : (n : Notes) → (code notes_form).Good n → notes_shaped n ≡ true
unfolding notes_shaped
notes_shaped_lem n g = refl

-- ---- as the code tests and writes them
pub fine_is : (t : List ℕ) (at : ℕ) → ltb (get_or t at 0) 2 ≡ (code notes_form).fine t at
fine_is t at = refl

pub bytes_are : (n : Notes) {mark : ℕ} → mark ≡ mark_of n.marked → mark ∷ [] ≡ notes_bytes n
unfolding notes_bytes
bytes_are n e = ap (λ (x : ℕ). x ∷ []) e
