use Rattle.text.proofs.WordLaws.{word_appended}
use Rattle.text.proofs.with_word.Goals as goal

pub returns : goal.returns
returns c = cc (word_appended c.args.text c.args.word.now)
