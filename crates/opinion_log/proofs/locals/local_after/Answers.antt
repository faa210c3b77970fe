use Rattle.std.proofs.Common.{arith}
use borrow.Author.Tests.{tests}
use Rattle.history.specs.After.{after_call, renumbered_known}
use Rattle.history.specs.Known.{now_port, now_rate, now_local, now_clock, change_path, now_path, now_under}
use Rattle.octets.specs.Choice.{◌then◌otherwise◌}
use Rattle.opinion_log.proofs.Walk.{after_called, packet_local}
use Rattle.octets.proofs.Chains.{equal_is_same}
use Rattle.opinion_log.proofs.locals.local_after.Goals as goal

pub returns-in-Adds : goal.returns-in-Adds
unfolding after_call renumbered_known now_port now_rate now_local now_clock change_path now_path now_under ◌then◌otherwise◌
returns-in-Adds c = grind (arith, tests, after_called, packet_local, equal_is_same)

pub returns-in-Removes : goal.returns-in-Removes
unfolding after_call renumbered_known now_port now_rate now_local now_clock change_path now_path now_under ◌then◌otherwise◌
returns-in-Removes c = grind (arith, tests, after_called, packet_local, equal_is_same)

pub returns-in_default : goal.returns-in_default
unfolding after_call renumbered_known now_port now_rate now_local now_clock change_path now_path now_under ◌then◌otherwise◌
returns-in_default c = grind (arith, tests, after_called, packet_local, equal_is_same)

pub returns-in_default-2 : goal.returns-in_default-2
unfolding after_call renumbered_known now_port now_rate now_local now_clock change_path now_path now_under ◌then◌otherwise◌
returns-in_default-2 c = grind (arith, tests, after_called, packet_local, equal_is_same)

pub returns-in_default-3 : goal.returns-in_default-3
unfolding after_call renumbered_known now_port now_rate now_local now_clock change_path now_path now_under ◌then◌otherwise◌
returns-in_default-3 c = grind (arith, tests, after_called, packet_local, equal_is_same)
