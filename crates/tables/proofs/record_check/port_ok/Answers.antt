use Rattle.std.proofs.lemmas.Grind.{common_steps}
use native.Mathlib.Omega.{arith}
use borrow.Author.Tests.{tests}
use Rattle.octets.specs.Index.{◌and◌}
use Rattle.rules.specs.Refusals.{port_ok}
use Rattle.tables.specs.Records.{port_of}
use Rattle.tables.proofs.Tests.{port_test}
use Rattle.tables.proofs.record_check.port_ok.Goals as goal

pub returns-then-b-lt-MODE_COUNT : goal.returns-then-b-lt-MODE_COUNT
unfolding port_ok port_of ◌and◌
returns-then-b-lt-MODE_COUNT c = rw (port_test c.args.b.now) (grind (arith, common_steps, tests))

pub returns-else-b-lt-MODE_COUNT : goal.returns-else-b-lt-MODE_COUNT
unfolding port_ok port_of ◌and◌
returns-else-b-lt-MODE_COUNT c = rw (port_test c.args.b.now) (grind (arith, common_steps, tests))
