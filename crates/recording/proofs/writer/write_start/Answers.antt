use mathlib.Core.Path.{ap, ◌∙◌}
use Prim.Native.Nat.{ℕ}
use mathlib.Core.List.{List, [], ◌∷◌}
use Rattle.octets.specs.Part.{patch}
use Rattle.octets.specs.BigEndian.{big_endian}
use Rattle.recording.specs.Format.{recording_edition}
use Rattle.recording.specs.Shape.{count_at, count_width}
use Rattle.recording.proofs.WriteLaws.{start_written}
use Rattle.recording.proofs.writer.write_start.Goals as goal

pub returns : goal.returns
returns c =
    let a = c.args in
    let edition = c.set_at-2.ensures ∙ ap (λ (r : List ℕ). patch r 1 (recording_edition ∷ [])) c.set_at.ensures in
    c.write_number_at.ensures ∙ ap (λ (r : List ℕ). patch r count_at (big_endian count_width a.n)) edition
    ∙ start_written a.room.now a.n c.requires
