use native.Mathlib.Omega.{arith}
use Prim.Native.Nat.{◌*◌}
use lib.ListN.{length}
use mathlib.Core.Path.{◌≡◌, refl, ◌∙◌}
use Rattle.std.proofs.Common.{rules, lit<}
use Rattle.octets.proofs.Part.{part_range}
use Rattle.numbers.specs.Numbers.{local_count}
use Rattle.tables.specs.Places.{address_width, locals_at, local_width}
use Rattle.tables.proofs.Chunks.{chunk_place}
use Rattle.lookup.specs.Search.{has_key}
use Rattle.lookup.proofs.Searches.{seen_in, as_found}
use Rattle.lookup.proofs.Tables.{local_lowest}
use Rattle.lookup.proofs.locals.local_place.Goals as goal

pub returns : goal.returns
returns c =
    let t = c.args.tables.now in
    let address = c.args.address in
    let wide : length address ≡ address_width = search rules in
    as_found local_count
    (chunk_place (has_key address) local_width local_count c.chunks_exact.ensures.size (lit< tt) (λ x b q k. search rules)
    _ c.chunks_exact.ensures.rest (omega arith) c.position.ensures.ran)
    (seen_in (has_key address) locals_at local_width local_count t refl (part_range t locals_at (local_width * local_count))
    ∙ local_lowest t address wide)
