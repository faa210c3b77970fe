use Rattle.std.proofs.Common.{arith}
use borrow.Author.Tests.{tests}
use Rattle.rules.specs.Ways.{path_way, no_path}
use Rattle.judging.proofs.ways.path_way.Goals as goal

pub returns-in-None : goal.returns-in-None
unfolding path_way no_path
returns-in-None c = grind (arith, tests)

pub returns-in-Some : goal.returns-in-Some
unfolding path_way no_path
returns-in-Some c = grind (arith, tests)
