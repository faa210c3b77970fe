use mathlib.Core.Path.{sym, ◌∙◌}
use borrow.Author.Tests.{le-leb, lt-leb}
use Rattle.octets.proofs.Index.{and_no, and_yes}
use Rattle.numbers.specs.Numbers.{least_size, is_size}
use Rattle.packet.proofs.reader.is_size.Goals as goal

pub returns-then-size-ge-LEAST_SIZE : goal.returns-then-size-ge-LEAST_SIZE
unfolding is_size
returns-then-size-ge-LEAST_SIZE c = sym (and_yes _ (le-leb least_size _ c.if-size-ge-LEAST_SIZE.true))

pub returns-else-size-ge-LEAST_SIZE : goal.returns-else-size-ge-LEAST_SIZE
unfolding is_size
returns-else-size-ge-LEAST_SIZE c =
    let small = lt-leb least_size _ c.if-size-ge-LEAST_SIZE.false in
    small ∙ sym (and_no _ small)
