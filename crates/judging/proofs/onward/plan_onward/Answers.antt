use Rattle.std.proofs.Common.{sym, ap, ◌∙◌}
use Rattle.forms.proofs.WayLaws.{announce_way}
use Rattle.forms.proofs.KindLaws.{announce_long}
use Rattle.judging.specs.Seen.{arrival_of, view_of, way_of}
use Rattle.std.proofs.Common.{arith}
use borrow.Author.Tests.{tests}
use Rattle.rules.specs.Judging.{onward_plan, onward_tests}
use Rattle.octets.specs.Listed.{first_of}
use Rattle.rules.specs.Tests.{no_way_on, why_blocked}
use Rattle.judging.specs.Steps.{last_plan}
use Rattle.octets.specs.Choice.{◌then◌otherwise◌}
use Rattle.judging.proofs.onward.plan_onward.Goals as goal

pub returns-in-Blocked : goal.returns-in-Blocked
unfolding onward_plan onward_tests first_of no_way_on why_blocked last_plan ◌then◌otherwise◌
returns-in-Blocked c = grind (arith, tests)

pub returns-then-already_known : goal.returns-then-already_known
unfolding onward_plan onward_tests first_of no_way_on why_blocked last_plan ◌then◌otherwise◌
returns-then-already_known c = grind (arith, tests)

pub returns-then-wrong_side : goal.returns-then-wrong_side
unfolding onward_plan onward_tests first_of no_way_on why_blocked last_plan ◌then◌otherwise◌
returns-then-wrong_side c = grind (arith, tests)

pub returns-then-not_signed : goal.returns-then-not_signed
unfolding onward_plan onward_tests first_of no_way_on why_blocked last_plan ◌then◌otherwise◌
returns-then-not_signed c = grind (arith, tests)

pub returns : goal.returns
unfolding onward_plan onward_tests first_of no_way_on why_blocked last_plan ◌then◌otherwise◌
returns c = grind (arith, tests)

-- only an announce goes everywhere, and its form is good
pub plan_last-requires : goal.plan_last-requires
plan_last-requires c =
    let a = arrival_of c.args.packet.now c.args.arrived in
    let s = c.args.seen.now in
    record {
      readable = c.requires.0;
      fits = c.requires.1;
      long = λ e. announce_long a c.requires.2 (announce_way (view_of s a) a _ (sym c.way_on-way.ensures ∙ ap (way_of s a) e));
    }
