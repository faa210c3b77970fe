use Rattle.text.specs.Numerals.{decimal}
use Rattle.text.proofs.WordLaws.{word_appended}
use Rattle.text.proofs.with_number.Goals as goal

pub returns : goal.returns
returns c = cc (word_appended c.args.text (decimal c.args.x))
