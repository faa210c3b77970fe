use lib.ListN.{length}
use Rattle.packet.proofs.ReadLaws.{start_two, start_one, start_least}
use Rattle.packet.specs.Write.{Wide}
use Rattle.packet.specs.Places.{address_width}
use Rattle.packet.proofs.WriteLaws.{one_written, two_written}
use mathlib.Core.Path.{◌≡◌, sym, ◌∙◌}
use native.Mathlib.Omega.{arith}
use borrow.Author.Rules.{rules}
use Rattle.packet.proofs.writer.write_packet.Goals as goal

pub set_at-requires : goal.set_at-requires
set_at-requires c = omega (arith, start_least c.args.parts.header)

pub set_at-requires-2 : goal.set_at-requires-2
set_at-requires-2 c = omega (arith, start_least c.args.parts.header)

pub copy_at-requires : goal.copy_at-requires
copy_at-requires c =
    let q = c.args.parts in
    let wide : length q.relay ≡ address_width = search rules in
    omega (arith, start_two q.header (sym c.type_two.ensures ∙ c.if-type_two.true), c.requires)

pub write_end-requires : goal.write_end-requires
write_end-requires c = omega (arith, start_two c.args.parts.header (sym c.type_two.ensures ∙ c.if-type_two.true), c.requires)

pub returns-then-type_two : goal.returns-then-type_two
returns-then-type_two c =
    let a = c.args in
    let wide : Wide a.parts = record { relay = search rules; destination = search rules } in
    let two = sym c.type_two.ensures ∙ c.if-type_two.true in
    rw (c.write_end.ensures, c.copy_at.ensures, c.set_at-2.ensures, c.set_at.ensures)
    (two_written a.output.now a.parts a.payload.now wide c.requires two)

pub write_end-requires-2 : goal.write_end-requires-2
write_end-requires-2 c = omega (arith, start_one c.args.parts.header (sym c.type_two.ensures ∙ c.if-type_two.false), c.requires)

pub returns : goal.returns
returns c =
    let a = c.args in
    let wide : Wide a.parts = record { relay = search rules; destination = search rules } in
    let one = sym c.type_two.ensures ∙ c.if-type_two.false in
    rw (c.write_end-2.ensures, c.set_at-2.ensures, c.set_at.ensures)
    (one_written a.output.now a.parts a.payload.now wide c.requires one)
