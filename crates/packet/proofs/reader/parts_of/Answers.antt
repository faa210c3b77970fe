use Rattle.packet.proofs.ReadLaws.{start_two, start_least, parts_one, parts_two}
use mathlib.Core.Path.{sym, ◌∙◌}
use Rattle.packet.specs.Read.{header_of}
use native.Mathlib.Omega.{arith}
use Rattle.packet.proofs.reader.parts_of.Goals as goal

pub bounds-packet-0 : goal.bounds-packet-0
bounds-packet-0 c = omega (arith, start_least (header_of c.args.packet.now))

pub type_two_parts-requires : goal.type_two_parts-requires
type_two_parts-requires c =
    omega (arith, start_two (header_of c.args.packet.now) (sym c.type_two.ensures ∙ c.if-type_two.true), c.requires)

pub returns-then-type_two : goal.returns-then-type_two
returns-then-type_two c = c.type_two_parts.ensures ∙ sym (parts_two _ (sym c.type_two.ensures ∙ c.if-type_two.true))

pub type_one_parts-requires : goal.type_one_parts-requires
type_one_parts-requires c = omega (arith, start_least (header_of c.args.packet.now), c.requires)

pub returns : goal.returns
returns c = c.type_one_parts.ensures ∙ sym (parts_one _ (sym c.type_two.ensures ∙ c.if-type_two.false))
