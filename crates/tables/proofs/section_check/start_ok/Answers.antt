use Rattle.std.proofs.lemmas.Grind.{common_steps}
use native.Mathlib.Omega.{arith}
use borrow.Author.Tests.{tests}
use Rattle.octets.specs.Index.{◌and◌}
use Rattle.rules.specs.Refusals.{time_ok, rate_settings_ok}
use Rattle.tables.specs.Layout.{rate_settings_in, start_ok}
use Rattle.tables.proofs.section_check.start_ok.Goals as goal

pub returns-then-number_at-le-GRACE_LIMIT : goal.returns-then-number_at-le-GRACE_LIMIT
unfolding start_ok time_ok rate_settings_ok rate_settings_in ◌and◌
returns-then-number_at-le-GRACE_LIMIT c = grind (arith, common_steps, tests)

pub returns-else-number_at-le-GRACE_LIMIT : goal.returns-else-number_at-le-GRACE_LIMIT
unfolding start_ok time_ok rate_settings_ok rate_settings_in ◌and◌
returns-else-number_at-le-GRACE_LIMIT c = grind (arith, common_steps, tests)
