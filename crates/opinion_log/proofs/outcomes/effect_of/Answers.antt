use Rattle.std.proofs.Common.{arith}
use borrow.Author.Tests.{tests}
use Rattle.octets.specs.Choice.{◌then◌otherwise◌}
use Rattle.opinion_log.proofs.outcomes.effect_of.Goals as goal

pub returns-in-Drop-RateLimited : goal.returns-in-Drop-RateLimited
unfolding ◌then◌otherwise◌
returns-in-Drop-RateLimited c = grind (arith, tests)

pub returns-in-Follow-ByPath : goal.returns-in-Follow-ByPath
unfolding ◌then◌otherwise◌
returns-in-Follow-ByPath c = grind (arith, tests)

pub returns-in-Follow-ByPath-2 : goal.returns-in-Follow-ByPath-2
unfolding ◌then◌otherwise◌
returns-in-Follow-ByPath-2 c = grind (arith, tests)

pub returns-in_default : goal.returns-in_default
unfolding ◌then◌otherwise◌
returns-in_default c = grind (arith, tests)
