use Rattle.std.proofs.Common.{arith}
use borrow.Author.Tests.{tests}
use Rattle.history.specs.Known.{seen_at}
use Rattle.rules.specs.Tests.{is_there}
use Rattle.opinion.proofs.packets.has_path.Goals as goal

pub returns : goal.returns
unfolding seen_at is_there
returns c = grind (arith, tests)
