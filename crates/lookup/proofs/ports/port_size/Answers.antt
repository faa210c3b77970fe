use mathlib.Core.Path.{sym, ap, ◌∙◌}
use mathlib.Core.List.{List}
use Prim.Native.Nat.{ℕ}
use Rattle.octets.specs.Part.{part}
use Rattle.octets.specs.BigEndian.{number}
use Rattle.tables.specs.Places.{size_width}
use Rattle.tables.specs.Fields.{port_size_at}
use Rattle.lookup.proofs.Tables.{size_seen, size_none}
use Rattle.lookup.proofs.ports.port_size.Goals as goal

pub returns-then-port : goal.returns-then-port
returns-then-port c = sym (size_none _ _ c.if-port.true)

pub returns : goal.returns
returns c =
    c.number_at.ensures
    ∙ ap (λ (b : List ℕ). number (part b port_size_at size_width)) c.record_at-b.ensures.0
    ∙ sym (size_seen c.args.tables.now c.args.port c.if-port.false)
