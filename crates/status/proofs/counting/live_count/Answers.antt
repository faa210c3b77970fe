use Prim.Native.Nat.{ℕ, ◌<◌, ◌^◌}
use native.Mathlib.Omega.{arith}
use mathlib.Core.Bool.{cond}
use mathlib.Core.Path.{◌∙◌}
use borrow.Author.Rules.{rules}
use borrow.Author.Tests.{tests}
use Rattle.std.specs.List.{count_by, range_with_len}
use Rattle.std.proofs.lemmas.Iterator.{YieldsList-from_range, YieldsList-from_map}
use Rattle.std.proofs.lemmas.Iterator.Consumers.{YieldsList-at, sum_by_from_yields_List, fits_by_from_yields_list}
use Rattle.tables.specs.Layout.{record_at}
use Rattle.lookup.specs.Search.{is_live}
use Rattle.status.proofs.Asked.{live_counted, live_most}
use Rattle.status.proofs.counting.live_count.Goals as goal

pub sum-requires-clause-fits : goal.sum-requires-clause-fits
sum-requires-clause-fits c =
    let a = c.args in
    let live : ℕ → ℕ = λ i. cond (is_live a.expiry a.clock (record_at a.at a.width a.tables.now i)) 1 0 in
    let most = live_most a.at a.width a.count a.expiry a.clock a.tables.now in
    let few : count_by (λ i. is_live a.expiry a.clock (record_at a.at a.width a.tables.now i)) (range_with_len 0 a.count) < 2 ^ 64 =
    omega (arith, live_counted a.at a.width a.count a.expiry a.clock a.tables.now, most, c.ranges.count.fits) in
    fits_by_from_yields_list live (range_with_len 0 a.count) c.map.result _
    (YieldsList-from_map _ live (YieldsList-at c.map.ensures.source (YieldsList-from_range 0 a.count a.count (search rules) (search rules)))
    c.map.ensures.closure (λ x r q k. search (rules, tests))) few

pub returns : goal.returns
returns c =
    let a = c.args in
    let live : ℕ → ℕ = λ i. cond (is_live a.expiry a.clock (record_at a.at a.width a.tables.now i)) 1 0 in
    sum_by_from_yields_List live (range_with_len 0 a.count) c.map.result _ c.sum.ensures.ran
    (YieldsList-from_map _ live (YieldsList-at c.map.ensures.source (YieldsList-from_range 0 a.count a.count (search rules) (search rules)))
    c.map.ensures.closure (λ x r q k. search (rules, tests)))
    ∙ live_counted a.at a.width a.count a.expiry a.clock a.tables.now
