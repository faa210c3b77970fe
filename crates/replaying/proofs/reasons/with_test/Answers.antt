use mathlib.Core.Path.{◌∙◌}
use borrow.Author.Tests.{ne_eqb}
use Rattle.octets.specs.Choice.{◌then◌otherwise◌}
use Rattle.replaying.specs.Lines.{test_word}
use Rattle.replaying.proofs.LineLaws.{word_grown}
use Rattle.replaying.proofs.reasons.with_test.Goals as goal

pub returns : goal.returns
unfolding test_word ◌then◌otherwise◌
returns c =
    rw (ne_eqb _ _ c.if-clause-eq0.false)
    (c.with_decimal.ensures
    ∙ rw (
      c.from-2.ensures,
      c.with_character.ensures,
      c.with_number-tested.ensures,
      c.from.ensures,
    ) (word_grown _ _ _ _))
