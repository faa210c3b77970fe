use mathlib.Core.Path.{ap, ap₂, ◌∙◌}
use Prim.Native.Nat.{ℕ, ◌+◌, ◌*◌}
use mathlib.Core.List.{List}
use native.Mathlib.Omega.{arith}
use Rattle.octets.specs.Part.{patch}
use Rattle.octets.specs.BigEndian.{big_endian}
use Rattle.recording.specs.Writer.{given_width, given_length_at, given_head_at}
use Rattle.recording.specs.Steps.{copied_item}
use Rattle.recording.specs.Shape.{offset_width, length_width}
use Rattle.recording.specs.Format.{head_width, length_at}
use Rattle.recording.proofs.WriteLaws.{given_within, given_range, entry_written}
use borrow.Author.Rules.{rules}
use Rattle.recording.proofs.writer.write_entry.Goals as goal

pub slice_bounds-copy_at-end : goal.slice_bounds-copy_at-end
slice_bounds-copy_at-end c =
    let inside = given_within c.args.entries.now c.args.i c.requires.0 in
    search rules

pub slice_bounds-copy_at-end-2 : goal.slice_bounds-copy_at-end-2
slice_bounds-copy_at-end-2 c =
    let inside = given_within c.args.entries.now c.args.i c.requires.0 in
    search rules

pub returns : goal.returns
returns c =
    let a = c.args in
    let g = a.entries.now in
    let room = a.room.now in
    let at = c.entry_place-at.result in
    let from : ℕ = given_width * a.i in
    let head = c.copy_at.ensures ∙ ap (patch room at) (given_range g from given_head_at head_width) in
    let offset = c.write_number_at.ensures ∙ ap (λ (r : List ℕ). patch r (at + head_width) (big_endian offset_width a.offset)) head in
    c.copy_at-2.ensures
    ∙ ap₂ (λ (r s : List ℕ). patch r (at + length_at) s) offset (given_range g from given_length_at length_width)
    ∙ entry_written g room at a.offset a.i c.requires.0 (omega (arith, c.entry_place-at.ensures, c.requires.2))
    ∙ ap (λ (k : ℕ). patch room k (copied_item g a.offset a.i)) c.entry_place-at.ensures
