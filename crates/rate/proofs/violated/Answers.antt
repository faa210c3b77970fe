use Prim.Native.Nat.{ℕ, ◌+◌, ◌<◌, ◌≤◌, min}
use mathlib.Core.Bool.{Bool, true, false}
use mathlib.Core.Path.{◌≡◌, refl, ◌∙◌}
use native.Mathlib.Omega.{arith}
use lib.Dec.{ltb}
use borrow.Author.Tests.{lt-ltb, le-ltb, ltb-true, ltb-false}
use borrow.Author.Rules.{rules}
use Rattle.octets.specs.Choice.{◌then◌otherwise◌}
use Rattle.numbers.specs.Numbers.{violation_limit}
use Rattle.rules.specs.Rate.{one_more, violated}
use Rattle.rules.proofs.Ranges.{settings_within, entry_within}
use Rattle.rate.proofs.violated.Goals as goal

saturates : (n : ℕ) → min (n + 1) violation_limit ≡ one_more n
unfolding one_more ◌then◌otherwise◌
saturates n = go (ltb n violation_limit) refl
  where
    go : (b : Bool) → ltb n violation_limit ≡ b → min (n + 1) violation_limit ≡ (b then n + 1 otherwise violation_limit)
    go true e = omega (arith, ltb-true n violation_limit e)
    go false e = omega (arith, ltb-false n violation_limit e)

pub overflow_add-result : goal.overflow_add-result
overflow_add-result c =
    let w = settings_within _ c.requires.0 in
    let e = entry_within _ c.requires.1 in
    search (rules, w.target, e.last)

pub overflow_add-result-then-settings-from : goal.overflow_add-result-then-settings-from
overflow_add-result-then-settings-from c =
    let w = settings_within _ c.requires.0 in
    let e = entry_within _ c.requires.1 in
    search (rules, w.target, w.penalty, e.last)

pub returns-then-settings-from : goal.returns-then-settings-from
unfolding violated ◌then◌otherwise◌
returns-then-settings-from c =
    let count = c.saturating_add-violations.ensures ∙ saturates c.args.entry.violations in
    let above : c.args.settings.grace < one_more c.args.entry.violations = omega (arith, count) in
    rw (count, lt-ltb _ _ above)

pub returns : goal.returns
unfolding violated ◌then◌otherwise◌
returns c =
    let count = c.saturating_add-violations.ensures ∙ saturates c.args.entry.violations in
    let within : one_more c.args.entry.violations ≤ c.args.settings.grace = omega (arith, count) in
    rw (count, le-ltb _ _ within)
