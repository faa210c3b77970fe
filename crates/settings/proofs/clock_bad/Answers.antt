use mathlib.Core.Path.{sym, ap, ◌∙◌}
use lib.Dec.{ltb}
use borrow.Author.Tests.{le-leb, lt-leb}
use Rattle.octets.proofs.Choice.{or_left, or_else}
use Rattle.numbers.specs.Numbers.{clock_limit}
use Rattle.settings.proofs.clock_bad.Goals as goal

pub returns-then-clock-ge-CLOCK_LIMIT : goal.returns-then-clock-ge-CLOCK_LIMIT
returns-then-clock-ge-CLOCK_LIMIT c =
    let past = le-leb clock_limit _ c.if-clock-ge-CLOCK_LIMIT.true in past ∙ sym (or_left _ past)

pub returns-else-clock-ge-CLOCK_LIMIT : goal.returns-else-clock-ge-CLOCK_LIMIT
returns-else-clock-ge-CLOCK_LIMIT c =
    ap (ltb c.args.clock) c.last_clock.ensures ∙ sym (or_else _ (lt-leb clock_limit _ c.if-clock-ge-CLOCK_LIMIT.false))
