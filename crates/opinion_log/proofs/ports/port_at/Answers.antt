use Rattle.std.proofs.Common.{arith}
use borrow.Author.Tests.{tests}
use Rattle.history.specs.After.{after_call, renumbered_known}
use Rattle.history.specs.Known.{now_port, now_rate, now_local, now_clock, change_path, now_path, now_under}
use Rattle.octets.specs.Choice.{◌then◌otherwise◌}
use Rattle.std.proofs.Common.{ℕ, ◌≡◌, sym, ap, ◌∙◌}
use Rattle.history.specs.Known.{Known}
use Rattle.opinion_log.specs.Log.{known_in}
use Rattle.opinion_log.proofs.Entries.{one_back}
use Rattle.opinion_log.proofs.Walk.{after_called, packet_port, fresh_port_lem}
use Rattle.opinion_log.proofs.ports.port_at.Goals as goal

pub returns-in-SetsPort : goal.returns-in-SetsPort
unfolding after_call renumbered_known now_port now_rate now_local now_clock change_path now_path now_under ◌then◌otherwise◌
returns-in-SetsPort c = grind (arith, tests, after_called, packet_port, ap (λ (k : Known). k.port c.loop-i.name) (one_back c.args.log.now c.loop-i.i _ c.loop-i-test.true c.entry_at.ensures.0))

pub loop-i-preserved-in-SetsPort-1 : goal.loop-i-preserved-in-SetsPort-1
unfolding after_call renumbered_known now_port now_rate now_local now_clock change_path now_path now_under ◌then◌otherwise◌
loop-i-preserved-in-SetsPort-1 c = grind (arith, tests, after_called, packet_port, ap (λ (k : Known). k.port c.loop-i.name) (one_back c.args.log.now c.loop-i.i _ c.loop-i-test.true c.entry_at.ensures.0))

pub loop-i-preserved-in-Renumbers-1 : goal.loop-i-preserved-in-Renumbers-1
unfolding after_call renumbered_known now_port now_rate now_local now_clock change_path now_path now_under ◌then◌otherwise◌
loop-i-preserved-in-Renumbers-1 c = grind (arith, tests, after_called, packet_port, ap (λ (k : Known). k.port c.loop-i.name) (one_back c.args.log.now c.loop-i.i _ c.loop-i-test.true c.entry_at.ensures.0))

pub loop-i-preserved : goal.loop-i-preserved
unfolding after_call renumbered_known now_port now_rate now_local now_clock change_path now_path now_under ◌then◌otherwise◌
loop-i-preserved c = grind (arith, tests, after_called, packet_port, ap (λ (k : Known). k.port c.loop-i.name) (one_back c.args.log.now c.loop-i.i _ c.loop-i-test.true c.entry_at.ensures.0))

pub returns : goal.returns
unfolding after_call renumbered_known now_port now_rate now_local now_clock change_path now_path now_under ◌then◌otherwise◌
returns c =
    let none : c.loop-i.i ≡ 0 = omega arith in
    fresh_port_lem c.args.log.now c.loop-i.name ∙ sym (c.loop-i.invariant ∙ ap (λ (i : ℕ). (known_in c.args.log.now i).port c.loop-i.name) none)
