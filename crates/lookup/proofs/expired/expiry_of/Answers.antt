use Rattle.lookup.proofs.ExpiredPaths.{another_key, still_live, run_out}
use Rattle.lookup.proofs.expired.expiry_of.Goals as goal

pub returns-then-not-has_key : goal.returns-then-not-has_key
returns-then-not-has_key c =
    another_key c.args.clock c.args.destination.now c.requires.1 c.args.b.now c.has_key.ensures c.if-not-has_key.true

pub returns-then-clock-expiry : goal.returns-then-clock-expiry
returns-then-clock-expiry c =
    still_live c.args.clock c.args.destination.now c.requires.1 c.args.b.now c.has_key.ensures c.if-not-has_key.false
    c.number_of_8_at-expiry.ensures c.if-clock-expiry.true

pub returns : goal.returns
returns c =
    run_out c.args.clock c.args.destination.now c.requires.1 c.args.b.now c.has_key.ensures c.if-not-has_key.false
    c.number_of_8_at-expiry.ensures c.if-clock-expiry.false
