use native.Mathlib.Omega.{arith}
use borrow.Author.Tests.{tests}
use Prim.Native.Nat.{ℕ, ◌*◌}
use lib.ListN.{get_or}
use lib.Dec.{eqb}
use mathlib.Core.List.{List}
use mathlib.Core.Path.{refl, ◌∙◌}
use Rattle.std.proofs.Common.{rules, lit<}
use Rattle.octets.proofs.Part.{part_range}
use Rattle.numbers.specs.Numbers.{local_count}
use Rattle.tables.specs.Places.{locals_at, local_width}
use Rattle.tables.proofs.Chunks.{chunk_place}
use Rattle.lookup.proofs.Searches.{seen_in, as_found}
use Rattle.lookup.proofs.Tables.{empty_lowest}
use Rattle.lookup.proofs.locals.empty_local.Goals as goal

pub returns : goal.returns
returns c =
    let t = c.args.tables.now in
    let p = λ (b : List ℕ). eqb (get_or b 0 0) 0 in
    as_found local_count
    (chunk_place p local_width local_count c.chunks_exact.ensures.size (lit< tt) (λ x b q k. search (rules, tests))
    _ c.chunks_exact.ensures.rest (omega arith) c.position.ensures.ran)
    (seen_in p locals_at local_width local_count t refl (part_range t locals_at (local_width * local_count)) ∙ empty_lowest t)
