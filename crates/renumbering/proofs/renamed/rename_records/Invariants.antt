use mathlib.Core.Path.{◌≡◌}
use mathlib.Core.List.{map}
use Rattle.tables.specs.Records.{exactly}
use Rattle.tables.specs.Layout.{records}
use Rattle.tables.proofs.Section.{up_to}
use Rattle.renumbering.specs.Renamed.{with_images}
use Rattle.renumbering.proofs.renamed.rename_records.Given as goal

abbrev pub invariant-loop-i : goal.invariant-loop-i
invariant-loop-i l =
    l.t ≡ up_to (exactly l.width) l.at (map (with_images l.map l.places) (records (λ b. b) l.at l.width l.count l.initial.t)) l.initial.t l.i
