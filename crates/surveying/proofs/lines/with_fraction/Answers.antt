use Rattle.std.proofs.Common.{◌∙◌}
use Rattle.replaying.proofs.LineLaws.{word_grown}
use Rattle.surveying.specs.Lines.{fraction_word}
use Rattle.surveying.proofs.lines.with_fraction.Goals as goal

pub returns : goal.returns
unfolding fraction_word
returns c = c.with_decimal.ensures ∙ rw (c.with_character.ensures, c.with_number-above.ensures) (word_grown _ _ _ _)
