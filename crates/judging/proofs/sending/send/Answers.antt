use Rattle.std.proofs.Common.{arith}
use borrow.Author.Tests.{tests}
use Rattle.rules.specs.Judging.{way_verdict, leaves}
use Rattle.rules.specs.Outgoing.{outgoing, spread_ports, exceeds}
use Rattle.rules.specs.Tests.{leaving_port}
use Rattle.judging.specs.Seen.{view_of}
use Rattle.octets.specs.Choice.{◌then◌otherwise◌}
use Rattle.std.proofs.Common.{ℕ, ap, ◌∙◌}
use Rattle.rules.specs.Answers.{port_set}
use Rattle.rules.specs.Outgoing.{spread_packet}
use Rattle.rules.specs.Judging.{spread_verdict}
use Rattle.judging.specs.Steps.{spreads_to}
use Rattle.judging.proofs.sending.send.Goals as goal

pub returns-in-Everywhere : goal.returns-in-Everywhere
unfolding way_verdict outgoing leaving_port leaves view_of spread_ports exceeds ◌then◌otherwise◌
returns-in-Everywhere c =
    let s = c.args.seen.now in
    let those = c.spread_ports-set.ensures ∙ ap (λ (n : ℕ). port_set (spreads_to s.ports c.args.arrived.port n)) c.spread_length.ensures in
    let sent = c.spread.ensures.0 ∙ ap (λ (n : ℕ). spread_verdict n (spread_packet s.own c.args.packet.now)) those in
    rw c.in-Everywhere.is (sent, c.spread.ensures.1)

pub returns-in-ByPath : goal.returns-in-ByPath
unfolding way_verdict outgoing leaving_port leaves view_of spread_ports exceeds ◌then◌otherwise◌
returns-in-ByPath c = grind (arith, tests)

pub returns-in-AlongLink : goal.returns-in-AlongLink
unfolding way_verdict outgoing leaving_port leaves view_of spread_ports exceeds ◌then◌otherwise◌
returns-in-AlongLink c = grind (arith, tests)

pub returns-in-Blocked : goal.returns-in-Blocked
unfolding way_verdict outgoing leaving_port leaves view_of spread_ports exceeds ◌then◌otherwise◌
returns-in-Blocked c = grind (arith, tests)
