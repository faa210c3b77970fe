use Rattle.std.proofs.Common.{arith}
use borrow.Author.Tests.{tests}
use Rattle.rules.specs.Tests.{not_ours}
use Rattle.judging.specs.Seen.{view_of}
use Rattle.octets.specs.Index.{◌and◌}
use Rattle.octets.proofs.Chains.{equal_is_same}
use Rattle.judging.proofs.early.not_ours.Goals as goal

pub returns-then-not-is_announce : goal.returns-then-not-is_announce
unfolding not_ours view_of ◌and◌
returns-then-not-is_announce c = grind (arith, tests, equal_is_same)

pub returns-else-not-is_announce : goal.returns-else-not-is_announce
unfolding not_ours view_of ◌and◌
returns-else-not-is_announce c = grind (arith, tests, equal_is_same)
