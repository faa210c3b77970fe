use borrow.Author.Tests.{lt-ltb, le-ltb}
use Rattle.octets.specs.Choice.{◌then◌otherwise◌}
use Rattle.rules.specs.Rate.{rated}
use Rattle.rules.proofs.Ranges.{settings_within, entry_within}
use borrow.Author.Rules.{rules}
use Rattle.rate.proofs.rule.Goals as goal

pub returns-then-clock-entry : goal.returns-then-clock-entry
unfolding rated ◌then◌otherwise◌
returns-then-clock-entry c = rw (lt-ltb _ _ c.if-clock-entry.true)

pub overflow_add-entry : goal.overflow_add-entry
overflow_add-entry c =
    let w = settings_within _ c.requires.0 in
    let e = entry_within _ c.requires.1 in
    search (rules, w.target, e.last)

pub returns-then-clock-entry-2 : goal.returns-then-clock-entry-2
unfolding rated ◌then◌otherwise◌
returns-then-clock-entry-2 c =
    rw (c.violated.ensures, le-ltb _ _ c.if-clock-entry.false, lt-ltb _ _ c.if-clock-entry-2.true)

pub returns : goal.returns
unfolding rated ◌then◌otherwise◌
returns c =
    rw (c.saturating_sub.ensures, le-ltb _ _ c.if-clock-entry.false, le-ltb _ _ c.if-clock-entry-2.false)
