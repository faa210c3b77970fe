use Rattle.std.proofs.Common.{arith}
use borrow.Author.Tests.{tests}
use Rattle.octets.specs.Index.{◌and◌}
use Rattle.judging.proofs.blobs.revives.Goals as goal

pub returns-then-path : goal.returns-then-path
unfolding ◌and◌
returns-then-path c = grind (arith, tests)

pub returns-else-path : goal.returns-else-path
unfolding ◌and◌
returns-else-path c = grind (arith, tests)
