use Rattle.std.proofs.Common.{le-ltb, lt-ltb, eq-eqb, ne_eqb}
use Rattle.octets.specs.Choice.{◌then◌otherwise◌}
use Rattle.surveying.specs.Promise.{line_at}
use Rattle.surveying.proofs.lines.line.Goals as goal

pub returns-then-i-eq0 : goal.returns-then-i-eq0
unfolding line_at ◌then◌otherwise◌
returns-then-i-eq0 c = rw (eq-eqb _ _ c.if-i-eq0.true) c.heading.ensures

pub returns-then-i-lt-PORTS_FROM : goal.returns-then-i-lt-PORTS_FROM
unfolding line_at ◌then◌otherwise◌
returns-then-i-lt-PORTS_FROM c = rw (ne_eqb _ _ c.if-i-eq0.false, lt-ltb _ _ c.if-i-lt-PORTS_FROM.true) c.recording_at.ensures

pub returns-then-i-lt-TESTS_FROM : goal.returns-then-i-lt-TESTS_FROM
unfolding line_at ◌then◌otherwise◌
returns-then-i-lt-TESTS_FROM c =
    rw (ne_eqb _ _ c.if-i-eq0.false, le-ltb _ _ c.if-i-lt-PORTS_FROM.false, lt-ltb _ _ c.if-i-lt-TESTS_FROM.true) c.port_at.ensures

pub returns-then-i-lt-LINE_COUNT : goal.returns-then-i-lt-LINE_COUNT
unfolding line_at ◌then◌otherwise◌
returns-then-i-lt-LINE_COUNT c =
    rw (ne_eqb _ _ c.if-i-eq0.false, le-ltb _ _ c.if-i-lt-PORTS_FROM.false, le-ltb _ _ c.if-i-lt-TESTS_FROM.false, lt-ltb _ _ c.if-i-lt-LINE_COUNT.true)
    c.test_at.ensures

pub returns : goal.returns
unfolding line_at ◌then◌otherwise◌
returns c =
    rw (ne_eqb _ _ c.if-i-eq0.false, le-ltb _ _ c.if-i-lt-PORTS_FROM.false, le-ltb _ _ c.if-i-lt-TESTS_FROM.false, le-ltb _ _ c.if-i-lt-LINE_COUNT.false)
    c.empty.ensures
