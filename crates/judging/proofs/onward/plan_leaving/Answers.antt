use Rattle.std.proofs.Common.{arith}
use borrow.Author.Tests.{tests}
use Rattle.judging.specs.Steps.{leaving_plan}
use Rattle.octets.specs.Listed.{first_of}
use Rattle.rules.specs.Tests.{no_room}
use Rattle.judging.specs.Seen.{view_of}
use Rattle.octets.specs.Index.{◌and◌}
use Rattle.octets.specs.Choice.{◌then◌otherwise◌}
use Rattle.judging.proofs.onward.plan_leaving.Goals as goal

pub returns-then-port_off : goal.returns-then-port_off
unfolding leaving_plan first_of no_room view_of ◌and◌ ◌then◌otherwise◌
returns-then-port_off c = grind (arith, tests)

pub returns-then-too_long_for_port : goal.returns-then-too_long_for_port
unfolding leaving_plan first_of no_room view_of ◌and◌ ◌then◌otherwise◌
returns-then-too_long_for_port c = grind (arith, tests)

pub returns : goal.returns
unfolding leaving_plan first_of no_room view_of ◌and◌ ◌then◌otherwise◌
returns c = grind (arith, tests)
