use mathlib.Core.Path.{◌≡◌, sym, ◌∙◌}
use lib.ListN.{length}
use Rattle.packet.specs.Read.{longest_packet}
use Rattle.outgoing.proofs.LeavingLaws.{path_length_lem}
use borrow.Author.Rules.{rules}
use Rattle.numbers.specs.Numbers.{address_width}
use Rattle.judging.proofs.leaving.path_length.Goals as goal

pub returns : goal.returns
returns c =
    let wide : length c.args.next_hop ≡ address_width = search rules in
    c.path_length.ensures ∙ sym (path_length_lem longest_packet c.args.packet.now c.requires c.args.hops c.args.next_hop wide)
