use Rattle.act.proofs.Spreads.{spread_none, spread_long, spread_sent}
use Rattle.act.proofs.announces.spread.Goals as goal

pub returns-then-long-gt-LONGEST_PACKET : goal.returns-then-long-gt-LONGEST_PACKET
returns-then-long-gt-LONGEST_PACKET c =
    spread_long _ _ _ _ c.requires.0.readable c.requires.1 _ c.spread_length-long.ensures c.if-long-gt-LONGEST_PACKET.true

pub returns-then-ports-eq0 : goal.returns-then-ports-eq0
returns-then-ports-eq0 c =
    spread_none _ _ _ _ c.requires.0.readable c.requires.1 _ _ c.spread_length-long.ensures
    c.spread_ports-ports.ensures c.if-ports-eq0.true

pub returns : goal.returns
returns c =
    spread_sent _ _ _ _ c.requires.0.readable c.requires.1 _ _ c.spread_length-long.ensures
    c.spread_ports-ports.ensures c.if-ports-eq0.false c.if-long-gt-LONGEST_PACKET.false
    _ c.own_address.ensures _ _ c.spread-length.ensures.0 c.spread-length.ensures.1
