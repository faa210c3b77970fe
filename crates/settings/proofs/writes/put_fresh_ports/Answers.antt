use mathlib.Core.Path.{◌∙◌}
use lib.ListN.{replicate}
use Rattle.numbers.specs.Numbers.{port_count}
use Rattle.rules.specs.Relay.{fresh_port}
use Rattle.tables.specs.Places.{ports_at}
use Rattle.tables.proofs.Lent.{port_lent}
use Rattle.tables.proofs.Section.{up_none}
use Rattle.settings.proofs.Zeros.{ports_more, ports_all}
use Rattle.settings.proofs.writes.put_fresh_ports.Goals as goal

pub loop-i-init : goal.loop-i-init
loop-i-init c = up_none port_lent ports_at (replicate port_count fresh_port) c.args.tables.now

pub loop-i-preserved : goal.loop-i-preserved
loop-i-preserved c =
    let s = c.loop-i in
    c.put_port.ensures ∙ ports_more c.args.tables.now c.requires s.tables s.i s.invariant c.loop-i-test.true

pub returns : goal.returns
returns c =
    let s = c.loop-i in
    ports_all c.args.tables.now c.requires s.tables s.i s.invariant c.loop-i-test.false
