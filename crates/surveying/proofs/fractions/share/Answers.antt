use Rattle.std.proofs.Common.{sym, ap, ◌∙◌, arith}
use Rattle.surveying.specs.Fraction.{lowest_terms, share as share_of}
use Rattle.surveying.proofs.FractionLaws.{divisor_some, share_none, share_some}
use Rattle.surveying.proofs.fractions.share.Goals as goal

pub returns-then-packets-eq0 : goal.returns-then-packets-eq0
returns-then-packets-eq0 c =
    let a = c.args in
    sym (ap (share_of a.dropped) c.if-packets-eq0.true ∙ share_none a.dropped)

pub nonzero_div-result : goal.nonzero_div-result
nonzero_div-result c =
    let a = c.args in
    let some = divisor_some a.dropped a.packets (omega (arith, c.if-packets-eq0.false)) in
    omega (arith, some, c.greatest_common_divisor-divisor.ensures)

pub nonzero_div-result-2 : goal.nonzero_div-result-2
nonzero_div-result-2 c =
    let a = c.args in
    let some = divisor_some a.dropped a.packets (omega (arith, c.if-packets-eq0.false)) in
    omega (arith, some, c.greatest_common_divisor-divisor.ensures)

pub returns : goal.returns
unfolding lowest_terms
returns c =
    let a = c.args in
    rw c.greatest_common_divisor-divisor.ensures (sym (share_some a.dropped a.packets (omega (arith, c.if-packets-eq0.false))))
