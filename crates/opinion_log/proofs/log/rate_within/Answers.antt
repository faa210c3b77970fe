use Rattle.std.proofs.Common.{arith}
use borrow.Author.Tests.{tests}
use Rattle.rules.specs.Refusals.{rate_settings_ok}
use Rattle.octets.specs.Index.{◌and◌}
use Rattle.opinion_log.proofs.log.rate_within.Goals as goal

pub returns-then-rate-le-GRACE_LIMIT : goal.returns-then-rate-le-GRACE_LIMIT
unfolding rate_settings_ok ◌and◌
returns-then-rate-le-GRACE_LIMIT c = grind (arith, tests)

pub returns-else-rate-le-GRACE_LIMIT : goal.returns-else-rate-le-GRACE_LIMIT
unfolding rate_settings_ok ◌and◌
returns-else-rate-le-GRACE_LIMIT c = grind (arith, tests)
