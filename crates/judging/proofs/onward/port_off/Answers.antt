use Rattle.std.proofs.Common.{arith}
use borrow.Author.Tests.{tests}
use Rattle.rules.specs.Tests.{port_off}
use Rattle.judging.specs.Seen.{view_of}
use Rattle.octets.specs.Index.{◌and◌}
use Rattle.judging.proofs.onward.port_off.Goals as goal

pub returns-then-not-is_announce : goal.returns-then-not-is_announce
unfolding port_off view_of ◌and◌
returns-then-not-is_announce c = grind (arith, tests)

pub returns-else-not-is_announce : goal.returns-else-not-is_announce
unfolding port_off view_of ◌and◌
returns-else-not-is_announce c = grind (arith, tests)
