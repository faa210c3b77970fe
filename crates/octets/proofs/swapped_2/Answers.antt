use Rattle.octets.specs.BigEndian.{number_from, number, low_first}
use borrow.Author.Rules.{rules}
use Rattle.octets.proofs.swapped_2.Goals as goal

pub returns : goal.returns
unfolding number number_from low_first
returns c = search rules
