use Rattle.std.proofs.Common.{arith}
use borrow.Author.Tests.{tests}
use Rattle.rules.specs.Ways.{way_on}
use Rattle.judging.specs.Seen.{view_of}
use Rattle.octets.specs.Choice.{◌then◌otherwise◌}
use Rattle.judging.proofs.ways.way_on.Goals as goal

pub returns-then-is_announce : goal.returns-then-is_announce
unfolding way_on view_of ◌then◌otherwise◌
returns-then-is_announce c = grind (arith, tests)

pub returns-then-of_kind_link : goal.returns-then-of_kind_link
unfolding way_on view_of ◌then◌otherwise◌
returns-then-of_kind_link c = grind (arith, tests)

pub returns-then-is_proof : goal.returns-then-is_proof
unfolding way_on view_of ◌then◌otherwise◌
returns-then-is_proof c = grind (arith, tests)

pub returns-then-not-type_two : goal.returns-then-not-type_two
unfolding way_on view_of ◌then◌otherwise◌
returns-then-not-type_two c = grind (arith, tests)

pub returns : goal.returns
unfolding way_on view_of ◌then◌otherwise◌
returns c = grind (arith, tests)
