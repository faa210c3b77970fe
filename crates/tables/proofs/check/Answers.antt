use Rattle.std.proofs.lemmas.Grind.{common_steps}
use native.Mathlib.Omega.{arith}
use borrow.Author.Tests.{tests}
use Rattle.octets.specs.Index.{◌and◌}
use Rattle.tables.proofs.Whole.{clauses}
use Rattle.tables.proofs.check.Goals as goal

pub returns-then-paths_ok : goal.returns-then-paths_ok
unfolding ◌and◌
returns-then-paths_ok c = rw (clauses _) (grind (arith, common_steps, tests))

pub returns-else-paths_ok : goal.returns-else-paths_ok
unfolding ◌and◌
returns-else-paths_ok c = rw (clauses _) (grind (arith, common_steps, tests))
