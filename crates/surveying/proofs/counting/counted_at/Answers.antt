use Rattle.std.proofs.Common.{le-ltb, lt-ltb}
use Rattle.octets.specs.Choice.{◌then◌otherwise◌}
use Rattle.surveying.specs.Counts.{accepted_on, packets_on, bytes_in_on, bytes_out_by, dropped_on, dropped_by}
use Rattle.surveying.specs.Promise.{counted_at}
use Rattle.surveying.proofs.counting.counted_at.Goals as goal

pub returns-then-counter-lt-BYTES_IN_AT : goal.returns-then-counter-lt-BYTES_IN_AT
unfolding counted_at packets_on bytes_in_on bytes_out_by dropped_on dropped_by accepted_on ◌then◌otherwise◌
returns-then-counter-lt-BYTES_IN_AT c = rw (lt-ltb _ _ c.if-counter-lt-BYTES_IN_AT.true) c.amount_on.ensures

pub returns-then-counter-lt-BYTES_OUT_AT : goal.returns-then-counter-lt-BYTES_OUT_AT
unfolding counted_at packets_on bytes_in_on bytes_out_by dropped_on dropped_by accepted_on ◌then◌otherwise◌
returns-then-counter-lt-BYTES_OUT_AT c = rw (le-ltb _ _ c.if-counter-lt-BYTES_IN_AT.false, lt-ltb _ _ c.if-counter-lt-BYTES_OUT_AT.true) c.amount_on-then-counter-lt-BYTES_OUT_AT.ensures

pub returns-then-counter-lt-DROPPED_AT : goal.returns-then-counter-lt-DROPPED_AT
unfolding counted_at packets_on bytes_in_on bytes_out_by dropped_on dropped_by accepted_on ◌then◌otherwise◌
returns-then-counter-lt-DROPPED_AT c =
    rw (le-ltb _ _ c.if-counter-lt-BYTES_IN_AT.false, le-ltb _ _ c.if-counter-lt-BYTES_OUT_AT.false, lt-ltb _ _ c.if-counter-lt-DROPPED_AT.true) c.leaving_by.ensures

pub returns-then-counter-lt-TESTS_AT : goal.returns-then-counter-lt-TESTS_AT
unfolding counted_at packets_on bytes_in_on bytes_out_by dropped_on dropped_by accepted_on ◌then◌otherwise◌
returns-then-counter-lt-TESTS_AT c =
    rw (le-ltb _ _ c.if-counter-lt-BYTES_IN_AT.false, le-ltb _ _ c.if-counter-lt-BYTES_OUT_AT.false, le-ltb _ _ c.if-counter-lt-DROPPED_AT.false, lt-ltb _ _ c.if-counter-lt-TESTS_AT.true)
    c.dropped_on.ensures

pub returns : goal.returns
unfolding counted_at packets_on bytes_in_on bytes_out_by dropped_on dropped_by accepted_on ◌then◌otherwise◌
returns c =
    rw (le-ltb _ _ c.if-counter-lt-BYTES_IN_AT.false, le-ltb _ _ c.if-counter-lt-BYTES_OUT_AT.false, le-ltb _ _ c.if-counter-lt-DROPPED_AT.false, le-ltb _ _ c.if-counter-lt-TESTS_AT.false)
    c.dropped_by.ensures
