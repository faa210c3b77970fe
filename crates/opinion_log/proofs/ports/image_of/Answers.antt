use Rattle.std.proofs.Common.{arith}
use borrow.Author.Tests.{tests}
use Rattle.rules.specs.Renumbering.{image}
use Rattle.octets.specs.Choice.{◌then◌otherwise◌}
use Rattle.opinion_log.proofs.ports.image_of.Goals as goal

pub returns : goal.returns
unfolding image ◌then◌otherwise◌
returns c = grind (arith, tests)
