use mathlib.Core.Path.{◌≡◌, sym, ◌∙◌}
use mathlib.Core.Bool.{true, false}
use Rattle.octets.specs.Choice.{◌then◌otherwise◌}
use Rattle.packet.specs.Header.{type_two}
use Rattle.line.specs.Line.{type_name}
use Rattle.line.proofs.names.type_line.Goals as goal

pub returns-then-type_two : goal.returns-then-type_two
unfolding type_name ◌then◌otherwise◌
returns-then-type_two c =
    let two : type_two c.args.header ≡ true = sym c.type_two.ensures ∙ c.if-type_two.true in
    rw (c.with_text.ensures, c.empty-start.ensures, two)

pub returns : goal.returns
unfolding type_name ◌then◌otherwise◌
returns c =
    let one : type_two c.args.header ≡ false = sym c.type_two.ensures ∙ c.if-type_two.false in
    rw (c.with_text-2.ensures, c.empty-start.ensures, one)
