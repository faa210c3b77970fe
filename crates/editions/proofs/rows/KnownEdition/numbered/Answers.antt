use Prim.Native.Nat.{◌<◌}
use mathlib.Core.Path.{ap, ◌∙◌}
use Rattle.octets.specs.Index.{◌and◌}
use Rattle.octets.proofs.Index.{and_yes}
use borrow.Author.Tests.{lt-ltb, le-leb, lt-leb}
use native.Mathlib.Omega.{arith}
use Rattle.editions.specs.Editions.{current_edition, is_known_by, is_known}
use Rattle.editions.proofs.rows.KnownEdition.numbered.Goals.{then-number-eq0-via-then-number-eq0, then-number-eq0-via-else-number-eq0+then-number-gt-EDITION}
use Rattle.editions.proofs.rows.KnownEdition.numbered.Goals as goal

pub returns-then-number-eq0 : goal.returns-then-number-eq0
unfolding is_known is_known_by ◌and◌
returns-then-number-eq0 c =
    elim c.then-number-eq0.branch [
      | then-number-eq0-via-then-number-eq0 w ↦ ap is_known w.if-number-eq0.true
      | then-number-eq0-via-else-number-eq0+then-number-gt-EDITION w ↦
          let some : 0 < c.args.number = omega (arith, w.if-number-eq0.false) in
          rw (lt-ltb 0 _ some, lt-leb _ current_edition w.if-number-gt-EDITION.true)
    ]

pub invariant_of-result : goal.invariant_of-result
unfolding is_known is_known_by
invariant_of-result c =
    let n = c.args.number in
    let some : 0 < n = omega (arith, c.if-number-eq0.false) in
    record { known = and_yes _ (lt-ltb 0 n some) ∙ le-leb n current_edition c.if-number-gt-EDITION.false }
