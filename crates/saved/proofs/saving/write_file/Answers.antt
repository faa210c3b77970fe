use mathlib.Core.Path.{ap, ◌∙◌}
use mathlib.Core.List.{List}
use Prim.Native.Nat.{ℕ, ◌+◌}
use native.Mathlib.Omega.{arith}
use Rattle.octets.specs.Part.{patch}
use Rattle.octets.proofs.Bytes.{known_bytes}
use Rattle.tables.proofs.Whole.{formed}
use Rattle.tables.specs.Places.{table_size}
use Rattle.saved.specs.File.{body_count, bodies_at}
use Rattle.saved.specs.Steps.{contents_bytes, tally_bytes}
use Rattle.saved.proofs.SaveLaws.{file_written}
use Rattle.recording.specs.Shape.{contents_start}
use Rattle.saved.proofs.saving.write_file.Goals as goal

pub copy_tables-requires : goal.copy_tables-requires
copy_tables-requires c =
    let tables = c.args.tables.now in
    let size = c.write_contents.auto.room ∙ c.write_start.auto.room in
    ((formed tables c.requires.0).size, omega (arith, size, c.requires.1))

pub returns : goal.returns
returns c =
    let a = c.args in
    let tables = a.tables.now in
    let contents = c.write_contents.ensures
    ∙ ap (λ (r : List ℕ). patch r contents_start (contents_bytes body_count)) c.write_start.ensures in
    let copied = c.copy_tables.ensures ∙ ap (λ (r : List ℕ). patch r bodies_at tables) contents in
    c.write_tally.ensures
    ∙ ap (λ (r : List ℕ). patch r (bodies_at + table_size) (tally_bytes a.tally)) copied
    ∙ file_written tables a.tally a.room.now (known_bytes tables c.type_inv.tables) c.requires.0 c.requires.1
