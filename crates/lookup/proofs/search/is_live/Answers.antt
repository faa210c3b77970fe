use Rattle.std.proofs.lemmas.Grind.{common_steps}
use native.Mathlib.Omega.{arith}
use borrow.Author.Tests.{tests}
use Rattle.octets.specs.Index.{◌and◌}
use Rattle.lookup.specs.Search.{is_used, is_live}
use Rattle.lookup.proofs.search.is_live.Goals as goal

pub returns-then-b-ne0 : goal.returns-then-b-ne0
unfolding is_live is_used ◌and◌
returns-then-b-ne0 c = grind (arith, common_steps, tests)

pub returns-else-b-ne0 : goal.returns-else-b-ne0
unfolding is_live is_used ◌and◌
returns-else-b-ne0 c = grind (arith, common_steps, tests)
