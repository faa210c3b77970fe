use Rattle.packet.proofs.WriteLaws.{end_written}
use mathlib.Core.Path.{◌≡◌}
use lib.ListN.{length}
use borrow.Author.Rules.{rules}
use Rattle.packet.specs.Places.{address_width}
use Rattle.packet.proofs.writer.write_end.Goals as goal

pub returns : goal.returns
returns c =
    let a = c.args in
    let wide : length a.destination ≡ address_width = search rules in
    rw (c.copy_at-2.ensures, c.set_at.ensures, c.copy_at.ensures)
    (end_written a.output.now a.at a.destination a.context a.payload.now wide c.requires)
