use Rattle.std.proofs.Common.{arith}
use borrow.Author.Tests.{tests}
use Rattle.rules.specs.Tests.{follows_proved_link}
use Rattle.judging.proofs.onward.follows_proved_link.Goals as goal

pub returns-in-AlongLink : goal.returns-in-AlongLink
unfolding follows_proved_link
returns-in-AlongLink c = grind (arith, tests)

pub returns-in_default : goal.returns-in_default
unfolding follows_proved_link
returns-in_default c = grind (arith, tests)

pub returns-in_default-2 : goal.returns-in_default-2
unfolding follows_proved_link
returns-in_default-2 c = grind (arith, tests)
