use Rattle.std.proofs.Common.{rules, lit<}
use Rattle.tables.proofs.Chunks.{every_chunk_of}
use Rattle.tables.specs.Places.{path_width}
use Rattle.tables.specs.Records.{path_bytes_ok}
use Rattle.tables.proofs.section_check.paths_each.Goals as goal

pub returns : goal.returns
returns c =
    every_chunk_of path_bytes_ok path_width c.args.n c.all.ensures.ran c.chunks_exact.ensures.size (lit< tt) (λ x b q k. search rules)
    c.args.at c.args.t.now c.chunks_exact.ensures.rest c.requires
