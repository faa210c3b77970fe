use Rattle.std.proofs.Common.{arith}
use borrow.Author.Tests.{tests}
use Rattle.rules.specs.Judging.{spread_verdict, leaves}
use Rattle.octets.specs.Choice.{◌then◌otherwise◌, ◌or◌}
use Rattle.outgoing.proofs.RuleLaws.{spread_exceeds}
use Rattle.judging.proofs.sending.spread.Goals as goal

pub returns-then-ports-eq0 : goal.returns-then-ports-eq0
unfolding spread_verdict leaves ◌then◌otherwise◌ ◌or◌
returns-then-ports-eq0 c = grind (arith, tests, spread_exceeds)

pub returns : goal.returns
unfolding spread_verdict leaves ◌then◌otherwise◌ ◌or◌
returns c = grind (arith, tests, spread_exceeds)
