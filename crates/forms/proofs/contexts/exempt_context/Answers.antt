use Rattle.std.proofs.Common.{arith}
use Rattle.std.proofs.lemmas.Bool.Decides.{nat_tests}
use Rattle.octets.specs.Choice.{◌or◌}
use Rattle.rules.specs.Exempt.{exempt_context}
use Rattle.forms.proofs.contexts.exempt_context.Goals as goal

pub returns-in-1 : goal.returns-in-1
unfolding exempt_context ◌or◌
returns-in-1 c = grind (arith, nat_tests)

pub returns-in_default : goal.returns-in_default
unfolding exempt_context ◌or◌
returns-in_default c = grind (arith, nat_tests)
