use Rattle.text.proofs.NumeralLaws.{byte_digits_lem}
use Rattle.text.proofs.numerals.with_byte.Goals as goal

pub returns : goal.returns
returns c = cc (byte_digits_lem c.args.byte)
