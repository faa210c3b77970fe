use mathlib.Core.Path.{ap, ◌∙◌}
use Prim.Native.Nat.{ℕ}
use mathlib.Core.List.{List}
use lib.ListN.{length}
use native.Mathlib.Omega.{arith}
use Rattle.octets.specs.Part.{patch}
use Rattle.octets.proofs.Bytes.{known_bytes}
use Rattle.recording.specs.Writer.{file_length}
use Rattle.recording.specs.Steps.{copied_items}
use Rattle.recording.specs.Shape.{contents_start}
use Rattle.recording.proofs.WriteLaws.{writable, written_few, file_written}
use Rattle.recording.proofs.writer.write_file.Goals as goal

pub entry_place-at-requires : goal.entry_place-at-requires
entry_place-at-requires c =
    let a = c.args in
    let w = writable a.entries.now a.bodies.now (length a.room.now) c.requires in
    omega (arith, written_few w, c.given_count-n.ensures)

pub write_start-requires : goal.write_start-requires
unfolding file_length
write_start-requires c =
    let a = c.args in
    let w = writable a.entries.now a.bodies.now (length a.room.now) c.requires in
    omega (arith, w.roomy)

pub write_contents-requires : goal.write_contents-requires
unfolding file_length
write_contents-requires c =
    let a = c.args in
    let w = writable a.entries.now a.bodies.now (length a.room.now) c.requires in
    let n = c.given_count-n.ensures in
    let few = written_few w in
    (omega arith, omega arith, omega (arith, c.entry_place-at.ensures, w.short), omega (arith, w.roomy))

pub copy_at-requires : goal.copy_at-requires
unfolding file_length
copy_at-requires c =
    let a = c.args in
    let w = writable a.entries.now a.bodies.now (length a.room.now) c.requires in
    omega (arith, w.roomy, c.entry_place-at.ensures, c.given_count-n.ensures)

pub returns : goal.returns
returns c =
    let a = c.args in
    let w = writable a.entries.now a.bodies.now (length a.room.now) c.requires in
    let g = a.entries.now in
    let room = a.room.now in
    let n = c.given_count-n.ensures in
    let start = c.write_start.ensures in
    let items = copied_items g c.entry_place-at.result c.given_count-n.result in
    let contents = c.write_contents.ensures ∙ ap (λ (r : List ℕ). patch r contents_start items) start in
    c.copy_at.ensures
    ∙ ap (λ (r : List ℕ). patch r c.entry_place-at.result a.bodies.now) contents
    ∙ file_written g a.bodies.now room (known_bytes g c.type_inv.entries) w _ _ n
    c.entry_place-at.ensures
