use Rattle.std.proofs.Common.{arith}
use borrow.Author.Tests.{tests}
use Rattle.rules.specs.Tests.{own_announce}
use Rattle.judging.specs.Seen.{view_of}
use Rattle.octets.specs.Index.{◌and◌}
use Rattle.judging.proofs.early.own_announce.Goals as goal

pub returns-then-is_announce : goal.returns-then-is_announce
unfolding own_announce view_of ◌and◌
returns-then-is_announce c = grind (arith, tests)

pub returns-else-is_announce : goal.returns-else-is_announce
unfolding own_announce view_of ◌and◌
returns-else-is_announce c = grind (arith, tests)
