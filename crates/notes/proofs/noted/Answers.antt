-- an enum of one variant is matched without a branch
use mathlib.Core.Bool.{true}
use mathlib.Core.Path.{◌≡◌, refl}
use Rattle.notes.specs.Notes.{make_notes, noted as noted_after}
use Rattle.notes.specs.declared.Note.{Note}
use Rattle.notes.specs.declared.Note.TheVariants.{Unresponsive}
use Rattle.notes.specs.declared.Notes.{Notes}
use Rattle.notes.proofs.noted.Goals as goal

only : (note : Note) (notes : Notes) → make_notes true ≡ noted_after note notes
only Unresponsive notes = refl

pub returns : goal.returns
returns c = only c.args.note c.args.notes
