use native.Mathlib.Omega.{arith}
use Prim.Native.Nat.{◌*◌}
use mathlib.Core.Path.{sym, ◌∙◌}
use Rattle.std.proofs.Common.{rules, lit<}
use Rattle.std.proofs.lemmas.Iterator.Adapters.{option_map_id}
use Rattle.std.proofs.lemmas.Iterator.Consumers.{YieldsList-at, YieldsList-from_filter_map, max_from_yields_List}
use Rattle.octets.proofs.Part.{part_range}
use Rattle.numbers.specs.Numbers.{path_count}
use Rattle.tables.specs.Places.{paths_at, path_width}
use Rattle.tables.proofs.Chunks.{chunks_yield}
use Rattle.lookup.specs.Expired.{latest_of, expiry_of}
use Rattle.lookup.proofs.ExpiredPaths.{all_seen}
use Rattle.lookup.proofs.expired.expired_path.Goals as goal

pub returns : goal.returns
returns c =
    let a = c.args in
    sym (option_map_id _)
    ∙ max_from_yields_List c.filter_map.result _ c.max.ensures.ran
    (YieldsList-from_filter_map _ (λ b. latest_of (expiry_of a.clock a.destination b))
    (YieldsList-at c.filter_map.ensures.source
    (chunks_yield path_width path_count _ (lit< tt) c.chunks_exact.ensures.size c.chunks_exact.ensures.rest (omega arith)))
    c.filter_map.ensures.closure (λ x r q k. search rules))
    ∙ all_seen a.clock a.destination a.tables.now (part_range a.tables.now paths_at (path_width * path_count))
