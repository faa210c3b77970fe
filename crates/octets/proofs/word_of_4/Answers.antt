use Rattle.octets.specs.BigEndian.{word}
use borrow.Author.Rules.{rules}
use Rattle.octets.proofs.word_of_4.Goals as goal

pub returns : goal.returns
unfolding word
returns c = search rules
