use Rattle.std.proofs.Common.{arith}
use borrow.Author.Tests.{tests}
use Rattle.rules.specs.Judging.{plan, early_tests}
use Rattle.octets.specs.Listed.{first_of}
use Rattle.rules.specs.Tests.{too_many_hops}
use Rattle.octets.specs.Choice.{◌then◌otherwise◌}
use Rattle.std.proofs.Common.{sym, ◌∙◌}
use Rattle.packet.proofs.ReadLaws.{parts_hops}
use Rattle.forms.proofs.FormLaws.{form_bad, form_good}
use Rattle.judging.proofs.plan_of.Goals as goal

pub returns-then-not_ours : goal.returns-then-not_ours
unfolding plan early_tests first_of too_many_hops ◌then◌otherwise◌
returns-then-not_ours c = grind (arith, tests)

pub returns-then-duplicate : goal.returns-then-duplicate
unfolding plan early_tests first_of too_many_hops ◌then◌otherwise◌
returns-then-duplicate c = grind (arith, tests)

pub returns-in-Some : goal.returns-in-Some
unfolding plan early_tests first_of too_many_hops ◌then◌otherwise◌
returns-in-Some c = grind (arith, tests, form_bad c.args.packet.now (sym c.in-Some.is ∙ c.form_of.ensures))

pub returns-then-own_announce : goal.returns-then-own_announce
unfolding plan early_tests first_of too_many_hops ◌then◌otherwise◌
returns-then-own_announce c = grind (arith, tests, form_good c.args.packet.now (sym c.in_default.is ∙ c.form_of.ensures))

pub returns-then-delivered_here : goal.returns-then-delivered_here
unfolding plan early_tests first_of too_many_hops ◌then◌otherwise◌
returns-then-delivered_here c = grind (arith, tests, form_good c.args.packet.now (sym c.in_default.is ∙ c.form_of.ensures))

pub returns-then-packet-ge-HOPS_LIMIT : goal.returns-then-packet-ge-HOPS_LIMIT
unfolding plan early_tests first_of too_many_hops ◌then◌otherwise◌
returns-then-packet-ge-HOPS_LIMIT c = grind (arith, tests, parts_hops, form_good c.args.packet.now (sym c.in_default.is ∙ c.form_of.ensures))

pub plan_onward-requires : goal.plan_onward-requires
unfolding plan early_tests first_of too_many_hops ◌then◌otherwise◌
plan_onward-requires c = (c.requires.0, c.requires.1, form_good c.args.packet.now (sym c.in_default.is ∙ c.form_of.ensures))

pub returns : goal.returns
unfolding plan early_tests first_of too_many_hops ◌then◌otherwise◌
returns c = grind (arith, tests, parts_hops, form_good c.args.packet.now (sym c.in_default.is ∙ c.form_of.ensures))
