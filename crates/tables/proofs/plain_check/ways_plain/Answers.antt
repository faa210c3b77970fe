use Rattle.std.proofs.lemmas.Grind.{common_steps}
use native.Mathlib.Omega.{arith}
use borrow.Author.Tests.{tests}
use Rattle.octets.specs.Index.{◌and◌}
use Rattle.tables.specs.Groups.{ways_plain}
use Rattle.tables.proofs.plain_check.ways_plain.Goals as goal

pub returns-then-x-lt4503599627370496 : goal.returns-then-x-lt4503599627370496
unfolding ways_plain ◌and◌
returns-then-x-lt4503599627370496 c = grind (arith, common_steps, tests)

pub returns-else-x-lt4503599627370496 : goal.returns-else-x-lt4503599627370496
unfolding ways_plain ◌and◌
returns-else-x-lt4503599627370496 c = grind (arith, common_steps, tests)
