use mathlib.Core.Path.{◌≡◌, sym, ◌∙◌}
use mathlib.Core.Bool.{true, false}
use Rattle.octets.specs.Choice.{◌then◌otherwise◌}
use Rattle.packet.specs.Header.{transport}
use Rattle.line.specs.Line.{transport_name}
use Rattle.line.proofs.names.with_transport.Goals as goal

pub returns-then-transport : goal.returns-then-transport
unfolding transport_name ◌then◌otherwise◌
returns-then-transport c =
    let on : transport c.args.header ≡ true = sym c.transport.ensures ∙ c.if-transport.true in
    rw (c.with_word.ensures, on)

pub returns : goal.returns
unfolding transport_name ◌then◌otherwise◌
returns c =
    let off : transport c.args.header ≡ false = sym c.transport.ensures ∙ c.if-transport.false in
    rw (c.with_word-2.ensures, off)
