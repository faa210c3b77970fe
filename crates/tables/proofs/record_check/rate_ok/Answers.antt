use Rattle.std.proofs.lemmas.Grind.{common_steps}
use native.Mathlib.Omega.{arith}
use borrow.Author.Tests.{tests}
use Rattle.octets.specs.Index.{◌and◌}
use Rattle.rules.specs.Refusals.{rate_entry_ok}
use Rattle.tables.specs.Records.{path_of}
use Rattle.tables.proofs.record_check.rate_ok.Goals as goal

pub returns-then-number_of_8_at-lt-CLOCK_LIMIT : goal.returns-then-number_of_8_at-lt-CLOCK_LIMIT
unfolding rate_entry_ok path_of ◌and◌
returns-then-number_of_8_at-lt-CLOCK_LIMIT c = grind (arith, common_steps, tests)

pub returns-else-number_of_8_at-lt-CLOCK_LIMIT : goal.returns-else-number_of_8_at-lt-CLOCK_LIMIT
unfolding rate_entry_ok path_of ◌and◌
returns-else-number_of_8_at-lt-CLOCK_LIMIT c = grind (arith, common_steps, tests)
