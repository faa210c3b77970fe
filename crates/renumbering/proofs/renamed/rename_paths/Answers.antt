use mathlib.Core.Path.{ap, ◌∙◌}
use native.Mathlib.Omega.{arith}
use Rattle.octets.specs.Part.{patch}
use Rattle.octets.proofs.Bytes.{known_bytes}
use Rattle.numbers.specs.Numbers.{path_count}
use Rattle.tables.specs.Places.{paths_at}
use Rattle.renumbering.specs.Renamed.{renamed_paths}
use Rattle.renumbering.proofs.Images.{paths_ported, each_has, each_same}
use Rattle.renumbering.proofs.renamed.rename_paths.Goals as goal

pub rename_records-requires : goal.rename_records-requires
rename_records-requires c =
    let t = c.args.t.now in
    let bytes = known_bytes t c.slice_known-1.given in (
      each_has (paths_ported c.args.map.now) paths_at path_count t bytes (omega (arith, c.requires.1)) c.requires.0,
      omega (arith, c.requires.1),
      omega arith,
      c.requires.2,
    )

pub returns : goal.returns
unfolding renamed_paths
returns c =
    let t = c.args.t.now in
    let bytes = known_bytes t c.slice_known-1.given in
    c.rename_records.ensures
    ∙ ap (patch t paths_at) (each_same (paths_ported c.args.map.now) paths_at path_count t bytes (omega (arith, c.requires.1)) c.requires.0)
