use Rattle.std.proofs.Common.{arith}
use borrow.Author.Tests.{tests}
use Rattle.rules.specs.Writes.{remembers, already_live, remembers_plan}
use Rattle.judging.specs.Seen.{view_of}
use Rattle.octets.specs.Index.{◌and◌}
use Rattle.judging.proofs.records.remembers.Goals as goal

pub returns-then-not-seen : goal.returns-then-not-seen
unfolding remembers already_live remembers_plan view_of ◌and◌
returns-then-not-seen c = grind (arith, tests)

pub returns-else-not-seen : goal.returns-else-not-seen
unfolding remembers already_live remembers_plan view_of ◌and◌
returns-else-not-seen c = grind (arith, tests)
