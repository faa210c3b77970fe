-- What the host has noted of a path. Document 02, wish 6: "The mark lies in the path record"
use Rattle.std.specs.Prelude.{ℕ, Bool, true, false, List, refl}
use Rattle.codes.specs.Form.{Form, mark, field, as_record, code}
use Rattle.notes.specs.declared.Notes.{Notes}
use Rattle.notes.specs.declared.Note.{Note}
use Rattle.notes.specs.declared.Note.TheVariants.{Unresponsive}

abbrev pub make_notes : Bool → Notes
make_notes marked = record { marked = marked }

-- what is noted of a path that an accepted announce made. Wish 6: "Acceptance clears the mark"
abbrev pub no_notes : Notes
no_notes = make_notes false

-- what is noted after a note of the host's
abbrev pub noted : Note → Notes → Notes
noted Unresponsive n = make_notes true

-- ---- how they lie in a path's record. Wish 6: "7 also for a mark neither yes nor no"
abbrev pub notes_form : Form Notes
notes_form = as_record make_notes (λ n. n.marked) (λ x. refl) (λ y. refl) (field "marked" mark)

abbrev pub notes_width : ℕ
notes_width = (code notes_form).width

unfoldable pub notes_bytes : Notes → List ℕ
notes_bytes = (code notes_form).write

-- what bytes can hold of them: a mark that is yes or no, so that there is nothing to ask
unfoldable pub notes_shaped : Notes → Bool
notes_shaped n = true
