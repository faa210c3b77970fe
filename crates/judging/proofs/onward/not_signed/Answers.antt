use Rattle.std.proofs.Common.{arith}
use borrow.Author.Tests.{tests}
use Rattle.rules.specs.Tests.{not_signed}
use Rattle.octets.specs.Index.{◌and◌}
use Rattle.octets.specs.Choice.{◌or◌}
use Rattle.judging.proofs.onward.not_signed.Goals as goal

pub returns-then-is_link_proof : goal.returns-then-is_link_proof
unfolding not_signed ◌and◌ ◌or◌
returns-then-is_link_proof c = grind (arith, tests)

pub returns-else-is_link_proof : goal.returns-else-is_link_proof
unfolding not_signed ◌and◌ ◌or◌
returns-else-is_link_proof c = grind (arith, tests)
