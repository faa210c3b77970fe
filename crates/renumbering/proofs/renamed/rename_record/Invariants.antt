use mathlib.Core.Bool.{true}
use mathlib.Core.Path.{◌≡◌}
use lib.ListN.{drop}
use Rattle.renumbering.specs.Renamed.{images_put, ports_stand}
use Rattle.renumbering.proofs.renamed.rename_record.Given as goal

abbrev pub invariant-loop-place : goal.invariant-loop-place
invariant-loop-place l =
    (ports_stand l.map (drop l.place-index l.places) l.b ≡ true)
    × (images_put l.map (drop l.place-index l.places) l.b ≡ images_put l.map l.places l.initial.b)
