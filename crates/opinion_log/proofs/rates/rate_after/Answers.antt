use Rattle.std.proofs.Common.{arith}
use borrow.Author.Tests.{tests}
use Rattle.history.specs.After.{after_call, renumbered_known}
use Rattle.history.specs.Known.{now_port, now_rate, now_local, now_clock, change_path, now_path, now_under}
use Rattle.octets.specs.Choice.{◌then◌otherwise◌}
use Rattle.opinion_log.proofs.Walk.{after_called, packet_rate}
use Rattle.opinion_log.proofs.rates.rate_after.Goals as goal

pub returns-in-SetsRate : goal.returns-in-SetsRate
unfolding after_call renumbered_known now_port now_rate now_local now_clock change_path now_path now_under ◌then◌otherwise◌
returns-in-SetsRate c = grind (arith, tests, after_called, packet_rate)

pub returns-in_default : goal.returns-in_default
unfolding after_call renumbered_known now_port now_rate now_local now_clock change_path now_path now_under ◌then◌otherwise◌
returns-in_default c = grind (arith, tests, after_called, packet_rate)
