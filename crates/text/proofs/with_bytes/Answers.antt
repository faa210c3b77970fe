use Rattle.text.specs.Numerals.{hexadecimal}
use Rattle.text.proofs.WordLaws.{word_appended}
use Rattle.text.proofs.with_bytes.Goals as goal

pub returns : goal.returns
returns c = cc (word_appended c.args.text (hexadecimal c.args.bytes.now))
