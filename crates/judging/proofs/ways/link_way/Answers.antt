use Rattle.std.proofs.Common.{arith}
use borrow.Author.Tests.{tests}
use Rattle.rules.specs.Ways.{link_way}
use Rattle.octets.specs.Choice.{◌then◌otherwise◌, ◌or◌}
use Rattle.judging.proofs.ways.link_way.Goals as goal

pub returns-in-None : goal.returns-in-None
unfolding link_way ◌then◌otherwise◌ ◌or◌
returns-in-None c = grind (arith, tests)

pub returns-in-Some : goal.returns-in-Some
unfolding link_way ◌then◌otherwise◌ ◌or◌
returns-in-Some c = grind (arith, tests)

pub returns-in-Some-2 : goal.returns-in-Some-2
unfolding link_way ◌then◌otherwise◌ ◌or◌
returns-in-Some-2 c = grind (arith, tests)
