use Rattle.std.proofs.Common.{arith}
use borrow.Author.Tests.{tests}
use Rattle.rules.specs.Tests.{for_marked_path, is_marked}
use Rattle.judging.specs.Seen.{view_of}
use Rattle.octets.specs.Index.{◌and◌}
use Rattle.judging.proofs.early.for_marked_path.Goals as goal

pub returns-then-of_kind_single : goal.returns-then-of_kind_single
unfolding for_marked_path is_marked view_of ◌and◌
returns-then-of_kind_single c = grind (arith, tests)

pub returns-else-of_kind_single : goal.returns-else-of_kind_single
unfolding for_marked_path is_marked view_of ◌and◌
returns-else-of_kind_single c = grind (arith, tests)
