use Rattle.std.proofs.Common.{arith}
use borrow.Author.Tests.{tests}
use Rattle.rules.specs.Blobs.{held}
use Rattle.judging.proofs.Stored.held.Goals as goal

pub returns : goal.returns
unfolding held
returns c = grind (arith, tests)
