use Rattle.packet.proofs.ReadLaws.{start_two, start_one}
use mathlib.Core.Path.{sym, ◌∙◌}
use Rattle.packet.proofs.reader.payload_start.Goals as goal

pub returns-then-type_two : goal.returns-then-type_two
returns-then-type_two c = sym (start_two c.args.header (sym c.type_two.ensures ∙ c.if-type_two.true))

pub returns : goal.returns
returns c = sym (start_one c.args.header (sym c.type_two.ensures ∙ c.if-type_two.false))
