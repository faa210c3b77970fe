use Rattle.std.proofs.Common.{arith}
use borrow.Author.Tests.{tests}
use Rattle.history.specs.After.{after_call, renumbered_known}
use Rattle.history.specs.Known.{now_port, now_rate, now_local, now_clock, change_path, now_path, now_under}
use Rattle.octets.specs.Choice.{◌then◌otherwise◌}
use Rattle.opinion_log.specs.Steps.{keeps_hash}
use Rattle.opinion_log.proofs.Walk.{after_called, packet_until}
use Rattle.octets.proofs.Chains.{equal_is_same}
use Rattle.opinion_log.proofs.hashes.until_after.Goals as goal

pub returns-in-Came : goal.returns-in-Came
unfolding after_call renumbered_known now_port now_rate now_local now_clock change_path now_path now_under ◌then◌otherwise◌ keeps_hash
returns-in-Came c = grind (arith, tests, after_called, packet_until, equal_is_same)

pub returns-in_default : goal.returns-in_default
unfolding after_call renumbered_known now_port now_rate now_local now_clock change_path now_path now_under ◌then◌otherwise◌ keeps_hash
returns-in_default c = grind (arith, tests, after_called, packet_until, equal_is_same)

pub returns-in_default-2 : goal.returns-in_default-2
unfolding after_call renumbered_known now_port now_rate now_local now_clock change_path now_path now_under ◌then◌otherwise◌ keeps_hash
returns-in_default-2 c = grind (arith, tests, after_called, packet_until, equal_is_same)

pub returns-in_default-3 : goal.returns-in_default-3
unfolding after_call renumbered_known now_port now_rate now_local now_clock change_path now_path now_under ◌then◌otherwise◌ keeps_hash
returns-in_default-3 c = grind (arith, tests, after_called, packet_until, equal_is_same)
