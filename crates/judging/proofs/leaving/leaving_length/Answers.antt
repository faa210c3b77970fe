use Rattle.std.proofs.Common.{arith}
use borrow.Author.Tests.{tests}
use Rattle.rules.specs.Outgoing.{outgoing}
use Rattle.judging.specs.Seen.{view_of}
use Rattle.rules.proofs.Lengths.{carried_length}
use Rattle.judging.proofs.leaving.leaving_length.Goals as goal

pub returns-in-Everywhere : goal.returns-in-Everywhere
unfolding outgoing view_of
returns-in-Everywhere c = grind (arith, tests, carried_length)

pub returns-in-ByPath : goal.returns-in-ByPath
unfolding outgoing view_of
returns-in-ByPath c = grind (arith, tests, carried_length)

pub returns-in-AlongLink : goal.returns-in-AlongLink
unfolding outgoing view_of
returns-in-AlongLink c = grind (arith, tests, carried_length)

pub returns-in-Blocked : goal.returns-in-Blocked
unfolding outgoing view_of
returns-in-Blocked c = grind (arith, tests, carried_length)

pub returns-in-AlongLink-2 : goal.returns-in-AlongLink-2
unfolding outgoing view_of
returns-in-AlongLink-2 c = grind (arith, tests, carried_length)
