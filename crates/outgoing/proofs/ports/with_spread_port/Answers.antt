use native.Mathlib.Nat.{add-zero}
use borrow.Author.Tests.{eq-eqb, ne_eqb, lt-ltb, le-ltb}
use Rattle.octets.specs.Index.{◌and◌}
use Rattle.octets.specs.Choice.{◌then◌otherwise◌}
use Rattle.outgoing.proofs.PortLaws.{one_shifted}
use Rattle.outgoing.proofs.ports.with_spread_port.Goals as goal
use Rattle.outgoing.proofs.ports.with_spread_port.Goals.{else-on-via-then-on+then-port-arrival+else-length-size, else-on-via-then-on+else-port-arrival, else-on-via-else-on}

pub returns-then-length-size : goal.returns-then-length-size
unfolding ◌and◌ ◌then◌otherwise◌
returns-then-length-size c =
    rw (c.if-on.true, ne_eqb _ _ c.if-port-arrival.true, le-ltb _ _ c.if-length-size.true, one_shifted c.args.port c.requires.0)

pub returns : goal.returns
unfolding ◌and◌ ◌then◌otherwise◌
returns c =
    elim c.else-on.branch [
      | else-on-via-then-on+then-port-arrival+else-length-size w ↦
          rw (w.if-on.true, ne_eqb _ _ w.if-port-arrival.true, lt-ltb _ _ w.if-length-size.false, add-zero)
      | else-on-via-then-on+else-port-arrival w ↦ rw (w.if-on.true, eq-eqb _ _ w.if-port-arrival.false, add-zero)
      | else-on-via-else-on w ↦ rw (w.if-on.false, add-zero)
    ]
