use mathlib.Core.Path.{◌∙◌}
use native.Mathlib.Omega.{arith}
use borrow.Author.Rules.{rules}
use Rattle.std.proofs.lemmas.Iterator.{YieldsList-from_range, YieldsList-from_map}
use Rattle.std.proofs.lemmas.Iterator.Consumers.{sum_from_yields_List, fits_from_yields_list}
use Rattle.octets.proofs.Bytes.{known_bytes}
use Rattle.recording.specs.Writer.{given_length, given_start}
use Rattle.recording.proofs.Sums.{sum_over}
use Rattle.recording.proofs.WriteLaws.{given_start_most}
use Rattle.recording.proofs.writer.given_end.Goals as goal

pub sum-requires-clause-fits : goal.sum-requires-clause-fits
unfolding given_start
sum-requires-clause-fits c =
    let g = c.args.entries.now in
    let n = c.args.n in
    let most = given_start_most g n (known_bytes g c.type_inv.entries) c.requires.0 in
    fits_from_yields_list _ _
    (YieldsList-from_map _ (given_length g) (YieldsList-from_range 0 n n (search rules) (search rules)) c.map.ensures.closure (λ x r q k. search rules))
    (omega (arith, sum_over (given_length g) n, most, c.requires.1))

pub returns : goal.returns
unfolding given_start
returns c =
    let g = c.args.entries.now in
    let n = c.args.n in
    sum_from_yields_List _ _ c.sum.ensures.ran
    (YieldsList-from_map _ (given_length g) (YieldsList-from_range 0 n n (search rules) (search rules)) c.map.ensures.closure (λ x r q k. search rules))
    ∙ sum_over (given_length g) n
