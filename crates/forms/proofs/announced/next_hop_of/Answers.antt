use mathlib.Core.Path.{sym, ap, ◌∙◌}
use Rattle.octets.proofs.Choice.{then_true, then_false}
use Rattle.packet.specs.Read.{longest_packet}
use Rattle.packet.specs.declared.Parts.{Parts}
use Rattle.packet.proofs.ReadLaws.{reads_readable}
use Rattle.outgoing.proofs.LeavingLaws.{long}
use native.Mathlib.Omega.{arith}
use Rattle.forms.proofs.announced.next_hop_of.Goals as goal

pub parts_of-parts-requires : goal.parts_of-parts-requires
parts_of-parts-requires c = (reads_readable longest_packet _ c.requires).whole

pub bounds-packet-0 : goal.bounds-packet-0
bounds-packet-0 c = omega (arith, long longest_packet c.args.packet.now c.requires)

pub returns-then-type_two : goal.returns-then-type_two
returns-then-type_two c =
    ap (λ (q : Parts). q.relay) c.parts_of-parts.ensures
    ∙ sym (then_true _ _ (sym c.type_two.ensures ∙ c.if-type_two.true))

pub returns : goal.returns
returns c =
    ap (λ (q : Parts). q.destination) c.parts_of-parts.ensures
    ∙ sym (then_false _ _ (sym c.type_two.ensures ∙ c.if-type_two.false))
