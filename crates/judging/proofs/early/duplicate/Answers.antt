use Rattle.std.proofs.Common.{arith}
use borrow.Author.Tests.{tests}
use Rattle.rules.specs.Tests.{duplicate, tested_as_duplicate}
use Rattle.judging.specs.Seen.{view_of}
use Rattle.octets.specs.Index.{◌and◌}
use Rattle.judging.proofs.early.duplicate.Goals as goal

pub returns-then-not-for_marked_path : goal.returns-then-not-for_marked_path
unfolding duplicate tested_as_duplicate view_of ◌and◌
returns-then-not-for_marked_path c = grind (arith, tests)

pub returns-else-not-for_marked_path : goal.returns-else-not-for_marked_path
unfolding duplicate tested_as_duplicate view_of ◌and◌
returns-else-not-for_marked_path c = grind (arith, tests)
