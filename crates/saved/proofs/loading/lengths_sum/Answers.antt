use mathlib.Core.Path.{◌∙◌}
use Prim.Native.Nat.{ℕ, ◌^◌, ◌<◌}
use native.Mathlib.Omega.{arith}
use borrow.Author.Rules.{rules}
use borrow.Author.Tests.{tests}
use Rattle.std.specs.List.{sum_by, range_with_len}
use Rattle.std.proofs.lemmas.Iterator.{YieldsList-from_range, YieldsList-from_map}
use Rattle.std.proofs.lemmas.Iterator.Consumers.{YieldsList-at, sum_by_from_yields_List, fits_by_from_yields_list}
use Rattle.octets.proofs.Bytes.{known_bytes}
use Rattle.recording.specs.Shape.{length_of}
use Rattle.saved.specs.File.{head_width}
use Rattle.saved.proofs.LoadLaws.{lengths_most, lengths_added}
use Rattle.saved.proofs.loading.lengths_sum.Goals as goal

pub sum-requires-clause-fits : goal.sum-requires-clause-fits
sum-requires-clause-fits c =
    let f = c.args.file.now in
    let n = c.args.n in
    let long : ℕ → ℕ = length_of head_width f in
    let most = lengths_most f n (known_bytes f c.type_inv.file) c.requires.0 in
    let few : sum_by long (range_with_len 0 n) < 2 ^ 64 = omega (arith, lengths_added long n, most, c.requires.1) in
    fits_by_from_yields_list long (range_with_len 0 n) c.map.result _
    (YieldsList-from_map _ long (YieldsList-at c.map.ensures.source (YieldsList-from_range 0 n n (search rules) (search rules)))
    c.map.ensures.closure (λ x r q k. search (rules, tests))) few

pub returns : goal.returns
returns c =
    let f = c.args.file.now in
    let n = c.args.n in
    let long : ℕ → ℕ = length_of head_width f in
    sum_by_from_yields_List long (range_with_len 0 n) c.map.result _ c.sum.ensures.ran
    (YieldsList-from_map _ long (YieldsList-at c.map.ensures.source (YieldsList-from_range 0 n n (search rules) (search rules)))
    c.map.ensures.closure (λ x r q k. search (rules, tests)))
    ∙ lengths_added long n
