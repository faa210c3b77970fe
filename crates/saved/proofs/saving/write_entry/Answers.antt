use mathlib.Core.Path.{ap, ap₂, ◌∙◌}
use mathlib.Core.List.{List}
use Prim.Native.Nat.{ℕ, ◌+◌}
use Rattle.octets.specs.Part.{patch}
use Rattle.octets.specs.BigEndian.{big_endian}
use Rattle.saved.specs.Steps.{entry_bytes}
use Rattle.saved.proofs.SaveLaws.{entry_written}
use Rattle.editions.specs.Editions.{edition_at, width_at}
use native.Mathlib.Omega.{arith}
use Rattle.recording.specs.Shape.{offset_width, length_width}
use Rattle.saved.proofs.saving.write_entry.Goals as goal

pub returns : goal.returns
returns c =
    let a = c.args in
    let at = c.entry_place-at.result in
    c.write_number_at-2.ensures
    ∙ ap₂ (λ (r : List ℕ) (k : ℕ). patch r (at + offset_width) (big_endian length_width k)) c.write_number_at.ensures
    (c.width_of-length.ensures ∙ ap (λ (n : ℕ). width_at (edition_at n) a.i) c.current.ensures)
    ∙ entry_written a.room.now at a.offset a.i (omega (arith, c.entry_place-at.ensures, c.requires.0, c.requires.1))
    ∙ ap (λ (k : ℕ). patch a.room.now k (entry_bytes a.offset a.i)) c.entry_place-at.ensures
