use Rattle.std.proofs.Common.{arith}
use borrow.Author.Tests.{tests}
use Rattle.history.specs.Known.{only_if}
use Rattle.octets.specs.Choice.{◌then◌otherwise◌}
use Rattle.opinion_log.proofs.records.live_path.Goals as goal

pub returns : goal.returns
unfolding only_if ◌then◌otherwise◌
returns c = grind (arith, tests)
