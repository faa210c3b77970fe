use mathlib.Core.Path.{ap, ◌∙◌}
use native.Mathlib.Omega.{arith}
use Rattle.octets.specs.Part.{patch}
use Rattle.octets.proofs.Bytes.{known_bytes}
use Rattle.numbers.specs.Numbers.{return_count}
use Rattle.tables.specs.Places.{returns_at}
use Rattle.renumbering.specs.Renamed.{renamed_returns}
use Rattle.renumbering.proofs.Images.{returns_ported, each_has, each_same}
use Rattle.renumbering.proofs.renamed.rename_returns.Goals as goal

pub rename_records-requires : goal.rename_records-requires
rename_records-requires c =
    let t = c.args.t.now in
    let bytes = known_bytes t c.slice_known-1.given in (
      each_has (returns_ported c.args.map.now) returns_at return_count t bytes (omega (arith, c.requires.1)) c.requires.0,
      omega (arith, c.requires.1),
      omega arith,
      c.requires.2,
    )

pub returns : goal.returns
unfolding renamed_returns
returns c =
    let t = c.args.t.now in
    let bytes = known_bytes t c.slice_known-1.given in
    c.rename_records.ensures
    ∙ ap (patch t returns_at) (each_same (returns_ported c.args.map.now) returns_at return_count t bytes (omega (arith, c.requires.1)) c.requires.0)
