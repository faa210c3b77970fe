use Rattle.std.proofs.Common.{arith}
use borrow.Author.Tests.{tests}
use Rattle.rules.specs.Tests.{already_known, follows_proved_link, is_there}
use Rattle.judging.specs.Seen.{view_of, link_key_of}
use Rattle.octets.specs.Index.{◌and◌}
use Rattle.octets.specs.Choice.{◌or◌}
use Rattle.judging.proofs.onward.already_known.Goals as goal

pub returns-then-is_some : goal.returns-then-is_some
unfolding already_known follows_proved_link is_there view_of link_key_of ◌and◌ ◌or◌
returns-then-is_some c = grind (arith, tests)

pub returns-then-is_link_proof : goal.returns-then-is_link_proof
unfolding already_known follows_proved_link is_there view_of link_key_of ◌and◌ ◌or◌
returns-then-is_link_proof c = grind (arith, tests)

pub returns-else-is_link_proof : goal.returns-else-is_link_proof
unfolding already_known follows_proved_link is_there view_of link_key_of ◌and◌ ◌or◌
returns-else-is_link_proof c = grind (arith, tests)
