use Rattle.std.proofs.Common.{arith}
use borrow.Author.Tests.{tests}
use Rattle.opinion_log.specs.Log.{listed_in}
use Rattle.octets.specs.Choice.{◌then◌otherwise◌}
use Rattle.opinion_log.proofs.log.listed.Goals as goal

pub returns : goal.returns
unfolding listed_in ◌then◌otherwise◌
returns c = grind (arith, tests)
