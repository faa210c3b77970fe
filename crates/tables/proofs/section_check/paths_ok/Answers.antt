use native.Mathlib.Omega.{arith}
use Prim.Native.Nat.{◌*◌}
use mathlib.Core.Path.{◌∙◌}
use Rattle.std.proofs.Common.{rules, lit<}
use Rattle.tables.specs.Layout.{records_ok}
use Rattle.tables.specs.Groups.{path_group_size}
use Rattle.tables.proofs.Chunks.{every_chunk_of, groups_are_records}
use Rattle.tables.specs.Places.{path_width, paths_at}
use Rattle.tables.specs.Records.{path_bytes_ok}
use Rattle.tables.proofs.section_check.paths_ok.Goals as goal

pub returns : goal.returns
returns c =
    every_chunk_of (records_ok path_bytes_ok 0 path_width path_group_size) (path_width * path_group_size) 8 c.all.ensures.ran
    c.chunks_exact.ensures.size (lit< tt) (λ x b q k. search rules) paths_at c.args.t.now c.chunks_exact.ensures.rest (omega (arith, c.requires))
    ∙ groups_are_records path_bytes_ok paths_at path_width path_group_size c.args.t.now 8
