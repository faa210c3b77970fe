use Rattle.std.proofs.Common.{arith}
use borrow.Author.Tests.{tests}
use Rattle.rules.specs.Writes.{renewed_link}
use Rattle.octets.specs.Choice.{◌or◌}
use Rattle.judging.proofs.records.renewed_link.Goals as goal

pub returns : goal.returns
unfolding renewed_link ◌or◌
returns c = grind (arith, tests)
