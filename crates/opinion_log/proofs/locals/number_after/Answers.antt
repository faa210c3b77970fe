use Rattle.std.proofs.Common.{arith}
use borrow.Author.Tests.{tests}
use Rattle.history.specs.After.{after_call, renumbered_known}
use Rattle.history.specs.Known.{now_port, now_rate, now_local, now_clock, change_path, now_path, now_under}
use Rattle.octets.specs.Choice.{◌then◌otherwise◌}
use Rattle.opinion_log.proofs.Walk.{after_called, packet_locals}
use Rattle.opinion_log.proofs.locals.number_after.Goals as goal

pub returns-in-Adds : goal.returns-in-Adds
unfolding after_call renumbered_known now_port now_rate now_local now_clock change_path now_path now_under ◌then◌otherwise◌
returns-in-Adds c = grind (arith, tests, after_called, packet_locals)

pub returns-in-Removes : goal.returns-in-Removes
unfolding after_call renumbered_known now_port now_rate now_local now_clock change_path now_path now_under ◌then◌otherwise◌
returns-in-Removes c = grind (arith, tests, after_called, packet_locals)

pub returns-in_default : goal.returns-in_default
unfolding after_call renumbered_known now_port now_rate now_local now_clock change_path now_path now_under ◌then◌otherwise◌
returns-in_default c = grind (arith, tests, after_called, packet_locals)
