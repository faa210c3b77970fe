use Prim.Native.Nat.{◌+◌, ◌*◌}
use mathlib.Core.Path.{◌∙◌}
use Rattle.octets.specs.BigEndian.{big_endian}
use Rattle.octets.specs.Choice.{◌then◌otherwise◌}
use Rattle.octets.proofs.Bytes.{known_bytes}
use Rattle.octets.proofs.Part.{part_range}
use Rattle.tables.specs.Places.{port_width, ports_at}
use Rattle.tables.specs.Records.{port_bytes, mark_of}
use Rattle.renumbering.proofs.Moves.{settings_none, settings_there}
use Rattle.renumbering.proofs.moved.settings_of.Goals as goal

pub returns-then-i-ge-PORT_COUNT : goal.returns-then-i-ge-PORT_COUNT
unfolding port_bytes mark_of big_endian ◌then◌otherwise◌
returns-then-i-ge-PORT_COUNT c = settings_none c.args.tables.now c.args.i c.if-i-ge-PORT_COUNT.true

pub returns : goal.returns
returns c =
    let a = c.args in
    let t = a.tables.now in
    c.copy_from_slice.ensures.after
    ∙ part_range t (ports_at + port_width * a.i) port_width
    ∙ settings_there t (known_bytes t c.type_inv.tables) c.requires.0 a.i c.if-i-ge-PORT_COUNT.false
