use Rattle.std.proofs.Common.{arith}
use borrow.Author.Tests.{tests}
use Rattle.rules.specs.Tests.{too_long_for_port}
use Rattle.rules.specs.Outgoing.{exceeds}
use Rattle.judging.specs.Seen.{view_of}
use Rattle.octets.specs.Index.{◌and◌}
use Rattle.judging.proofs.onward.too_long_for_port.Goals as goal

pub returns-then-not-is_announce : goal.returns-then-not-is_announce
unfolding too_long_for_port exceeds view_of ◌and◌
returns-then-not-is_announce c = grind (arith, tests)

pub returns-else-not-is_announce : goal.returns-else-not-is_announce
unfolding too_long_for_port exceeds view_of ◌and◌
returns-else-not-is_announce c = grind (arith, tests)
