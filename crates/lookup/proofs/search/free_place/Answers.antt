use native.Mathlib.Omega.{arith}
use borrow.Author.Tests.{tests}
use Prim.Native.Nat.{ℕ}
use mathlib.Core.List.{List}
use mathlib.Core.Bool.{not}
use mathlib.Core.Path.{refl}
use Rattle.std.proofs.Common.{rules}
use Rattle.tables.proofs.Chunks.{chunk_place}
use Rattle.lookup.specs.Search.{is_live}
use Rattle.lookup.proofs.Searches.{seen_in, as_found}
use Rattle.lookup.proofs.search.free_place.Goals as goal

pub returns : goal.returns
returns c =
    let a = c.args in
    let w = a.table.width in
    let p = λ (b : List ℕ). not (is_live a.table.expiry a.clock b) in
    as_found a.table.count
    (chunk_place p w a.table.count c.chunks_exact.ensures.size (omega arith) (λ x b q k. search (rules, tests))
    c.records_of.result.now c.chunks_exact.ensures.rest c.records_of.ensures.long c.position.ensures.ran)
    (seen_in p a.table.at w a.table.count a.tables.now refl c.records_of.ensures.bytes)
