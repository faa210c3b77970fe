use Prim.Native.Nat.{ℕ, ◌+◌, ◌*◌}
use native.Mathlib.Omega.{arith}
use Rattle.codes.proofs.Pieces.{fields_written}
use Rattle.tables.specs.Forms.{port_form}
use Rattle.tables.specs.Places.{port_width, ports_at}
use Rattle.tables.specs.Records.{port_bytes}
use Rattle.rules.specs.Relay.{make_port}
use Rattle.settings.proofs.writes.put_port.Goals as goal

pub returns : goal.returns
unfolding port_bytes
returns c =
    let a = c.args in
    let at : ℕ = ports_at + port_width * a.port in
    rw (c.write_number_at.ensures, c.set_at-2.ensures, c.set_at.ensures, c.mark_of.ensures)
    (fields_written port_form (make_port a.on a.mode a.size) a.tables.now at (omega (arith, c.requires.0, c.requires.1)))
