use Rattle.std.proofs.Common.{arith}
use borrow.Author.Tests.{tests}
use Rattle.judging.specs.Seen.{view_of}
use Rattle.judging.proofs.onward.rate_limited.Goals as goal

pub returns : goal.returns
unfolding view_of
returns c = grind (arith, tests)
