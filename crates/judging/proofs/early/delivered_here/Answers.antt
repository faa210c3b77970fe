use Rattle.std.proofs.Common.{arith}
use borrow.Author.Tests.{tests}
use Rattle.rules.specs.Tests.{delivered_here}
use Rattle.judging.specs.Seen.{view_of}
use Rattle.octets.specs.Index.{◌and◌}
use Rattle.octets.specs.Choice.{◌or◌}
use Rattle.judging.proofs.early.delivered_here.Goals as goal

pub returns-then-not-of_kind_link : goal.returns-then-not-of_kind_link
unfolding delivered_here view_of ◌and◌ ◌or◌
returns-then-not-of_kind_link c = grind (arith, tests)

pub returns-else-not-of_kind_link : goal.returns-else-not-of_kind_link
unfolding delivered_here view_of ◌and◌ ◌or◌
returns-else-not-of_kind_link c = grind (arith, tests)
