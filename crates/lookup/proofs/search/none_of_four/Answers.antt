use Rattle.std.proofs.lemmas.Grind.{common_steps}
use native.Mathlib.Omega.{arith}
use borrow.Author.Tests.{tests}
use Rattle.octets.specs.Index.{all_below, ◌and◌}
use Rattle.lookup.specs.Search.{none_is}
use Rattle.lookup.proofs.search.none_of_four.Goals as goal

pub returns-then-word_at-x-3 : goal.returns-then-word_at-x-3
unfolding none_is all_below ◌and◌
returns-then-word_at-x-3 c = grind (arith, common_steps, tests)

pub returns-else-word_at-x-3 : goal.returns-else-word_at-x-3
unfolding none_is all_below ◌and◌
returns-else-word_at-x-3 c = grind (arith, common_steps, tests)
