use Prim.Native.Nat.{ℕ, ◌-◌}
use mathlib.Core.List.{List}
use mathlib.Core.Path.{ap, ap₂, ◌∙◌}
use Rattle.octets.specs.Part.{part, patch}
use Rattle.octets.proofs.Part.{part_range}
use Rattle.numbers.specs.Numbers.{path_count}
use Rattle.tables.specs.Places.{paths_at, links_at, back_width}
use Rattle.editions.specs.Editions.{numbered}
use Rattle.editions.specs.Steps.{paths_now}
use Rattle.editions.proofs.EachBrings.{each_brings}
use Rattle.editions.proofs.EditionLaws.{now_written}
use Rattle.editions.proofs.older.Bodies.write_tables.Goals as goal

pub returns : goal.returns
unfolding part
returns c =
    let a = c.args in
    let f = a.self.file.now in
    let e = numbered a.self.edition.number in
    let front = c.copy_at.ensures ∙ ap (patch a.tables.now 0) c.front_now.ensures in
    let paths = c.write_paths.ensures ∙ ap (λ (t : List ℕ). patch t paths_at (paths_now e f path_count)) front in
    let back = part_range f c.back_place-back.result back_width ∙ ap (λ (k : ℕ). part f k back_width) c.back_place-back.ensures in
    c.copy_at-2.ensures
    ∙ ap₂ (λ (t b : List ℕ). patch t links_at b) paths back
    ∙ now_written e f (each_brings (a.self.edition.number - 1)) c.args.self.there a.tables.now c.requires
