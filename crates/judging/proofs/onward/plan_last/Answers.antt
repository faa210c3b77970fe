use Rattle.std.proofs.Common.{arith}
use borrow.Author.Tests.{tests}
use Rattle.judging.specs.Steps.{last_plan, leaving_plan}
use Rattle.rules.specs.Tests.{known_tests}
use Rattle.octets.specs.Listed.{first_of}
use Rattle.octets.specs.Choice.{◌then◌otherwise◌}
use Rattle.std.proofs.Common.{ℕ, Bool, List}
use Rattle.rules.specs.Relay.{Path}
use Rattle.rules.specs.Arrival.{Arrival}
use Rattle.rules.specs.Tests.{is_replay, is_not_better, is_rate_limited}
use Rattle.judging.specs.declared.Arrived.{Arrived}
use Rattle.judging.specs.declared.Seen.{Seen}
use Rattle.judging.specs.Seen.{as_seen}
use Rattle.judging.proofs.onward.plan_last.Goals as goal

abbrev limited : Seen → List ℕ → Arrived → Arrival → Path → Bool
limited s packet m = as_seen (λ v a b. is_rate_limited v b) s packet m

pub returns-in_default : goal.returns-in_default
unfolding last_plan leaving_plan known_tests first_of ◌then◌otherwise◌
returns-in_default c = grind (arith, tests)

pub returns-then-replay : goal.returns-then-replay
unfolding last_plan leaving_plan known_tests first_of ◌then◌otherwise◌
returns-then-replay c = grind (arith, tests, c.in-Some.ensures.1 is_replay)

pub returns-then-not_better : goal.returns-then-not_better
unfolding last_plan leaving_plan known_tests first_of ◌then◌otherwise◌
returns-then-not_better c = grind (arith, tests, c.in-Some.ensures.1 is_replay, c.in-Some.ensures.1 is_not_better)

pub returns-then-rate_limited : goal.returns-then-rate_limited
unfolding last_plan leaving_plan known_tests first_of ◌then◌otherwise◌
returns-then-rate_limited c = grind (arith, tests, c.in-Some.ensures.1 is_replay, c.in-Some.ensures.1 is_not_better, c.in-Some.ensures.1 (limited c.args.seen.now c.args.packet.now c.args.arrived))

pub returns : goal.returns
unfolding last_plan leaving_plan known_tests first_of ◌then◌otherwise◌
returns c = grind (arith, tests, c.in-Some.ensures.1 is_replay, c.in-Some.ensures.1 is_not_better, c.in-Some.ensures.1 (limited c.args.seen.now c.args.packet.now c.args.arrived))
