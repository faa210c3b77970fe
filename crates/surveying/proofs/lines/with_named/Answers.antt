use Rattle.std.proofs.Common.{◌∙◌}
use Rattle.text.proofs.WordLaws.{words_appended}
use Rattle.surveying.proofs.lines.with_named.Goals as goal

pub returns : goal.returns
returns c = c.with_number.ensures ∙ rw c.with_word.ensures (words_appended _ _ _)
