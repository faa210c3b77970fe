use mathlib.Core.Path.{ap, ◌∙◌}
use mathlib.Core.List.{List, [], ◌∷◌}
use Prim.Native.Nat.{ℕ}
use Rattle.octets.specs.Part.{patch}
use Rattle.octets.specs.BigEndian.{big_endian}
use Rattle.editions.specs.Editions.{current_edition}
use Rattle.saved.specs.File.{body_count}
use Rattle.saved.proofs.SaveLaws.{start_written}
use Rattle.recording.specs.Shape.{count_at, count_width}
use Rattle.saved.proofs.saving.write_start.Goals as goal

pub returns : goal.returns
returns c =
    let edition = c.set_at-2.ensures ∙ ap (λ (r : List ℕ). patch r 1 (current_edition ∷ [])) c.set_at.ensures in
    c.write_number_at.ensures ∙ ap (λ (r : List ℕ). patch r count_at (big_endian count_width body_count)) edition
    ∙ start_written c.args.room.now c.requires
