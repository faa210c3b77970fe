use Rattle.std.proofs.Common.{arith}
use borrow.Author.Tests.{tests}
use Rattle.judging.specs.Seen.{link_key_of}
use Rattle.octets.specs.Choice.{◌then◌otherwise◌}
use Rattle.judging.proofs.keys.link_key.Goals as goal

pub returns-then-is_link_request : goal.returns-then-is_link_request
unfolding link_key_of ◌then◌otherwise◌
returns-then-is_link_request c = grind (arith, tests)

pub returns : goal.returns
unfolding link_key_of ◌then◌otherwise◌
returns c = grind (arith, tests)
