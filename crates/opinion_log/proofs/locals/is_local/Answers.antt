use Rattle.std.proofs.Common.{arith}
use borrow.Author.Tests.{tests}
use Rattle.opinion_log.proofs.Entries.{one_more}
use Rattle.opinion_log.proofs.Walk.{fresh_local}
use Rattle.opinion_log.proofs.locals.is_local.Goals as goal

pub loop-i-init : goal.loop-i-init
loop-i-init c = grind (arith, tests, one_more, fresh_local)

pub loop-i-preserved : goal.loop-i-preserved
loop-i-preserved c = grind (arith, tests, one_more, fresh_local)
