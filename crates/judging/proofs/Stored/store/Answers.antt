use Rattle.std.proofs.Common.{arith}
use borrow.Author.Tests.{tests}
use Rattle.rules.specs.Blobs.{store_blob}
use Rattle.octets.specs.Choice.{◌then◌otherwise◌}
use Rattle.judging.proofs.Stored.store.Goals as goal

pub returns-then-not-holds : goal.returns-then-not-holds
unfolding store_blob ◌then◌otherwise◌
returns-then-not-holds c = grind (arith, tests)

pub returns-else-not-holds : goal.returns-else-not-holds
unfolding store_blob ◌then◌otherwise◌
returns-else-not-holds c = grind (arith, tests)
