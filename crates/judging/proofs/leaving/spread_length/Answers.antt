use mathlib.Core.Path.{◌≡◌, sym, ◌∙◌}
use lib.ListN.{length}
use Rattle.packet.specs.Read.{longest_packet}
use Rattle.outgoing.proofs.LeavingLaws.{spread_length_lem}
use borrow.Author.Rules.{rules}
use Rattle.numbers.specs.Numbers.{address_width}
use Rattle.judging.proofs.leaving.spread_length.Goals as goal

pub returns : goal.returns
returns c =
    let wide : length c.args.own ≡ address_width = search rules in
    c.spread_length.ensures ∙ sym (spread_length_lem longest_packet c.args.packet.now c.requires c.args.own wide)
