-- what it shows of the decision that it found
use mathlib.Core.Path.{◌≡◌, ◌∙◌}
use Rattle.octets.proofs.Bytes.{known_bytes}
use Rattle.act.proofs.Stays.{drop_left, deliver_left}
use Rattle.act.proofs.Forwards.{data_hash}
use Rattle.plan.specs.declared.Decision.{Decision}
use Rattle.act.specs.Acted.{CanCarryOut}
use Rattle.act.proofs.carry_out.Goals as goal
use Rattle.act.proofs.carry_out.Goals.{Start}

carries : (c : Start) → {d : Decision} → c.args.decision ≡ d → CanCarryOut c.args.packet.now c.args.arrived c.args.tables.now c.args.output.now d
carries c is = record { accepted = c.requires.0.accepted; roomy = c.requires.0.roomy; decided = c.requires.0.decided ∙ is }

pub announce-requires : goal.announce-requires
announce-requires c = carries (goal.at.announce-requires c).Start c.in-Announce.is

pub send-requires : goal.send-requires
send-requires c =
    let data₀ = carries (goal.at.send-requires c).Start c.in-Data.is in
    (data₀, c.requires.1 ∙ data_hash _ _ _ data₀.accepted _ data₀.decided)

pub request-requires : goal.request-requires
request-requires c = carries (goal.at.request-requires c).Start c.in-Request.is

pub carry-requires : goal.carry-requires
carry-requires c = carries (goal.at.carry-requires c).Start c.in-Carry.is

pub receipt-requires : goal.receipt-requires
receipt-requires c = carries (goal.at.receipt-requires c).Start c.in-Receipt.is

pub returns-in-Drop : goal.returns-in-Drop
returns-in-Drop c =
    drop_left _ _ _ c.requires.0.accepted (known_bytes c.args.tables.now c.slice_known-1.given) _ _
    (c.requires.0.decided ∙ c.in-Drop.is) _ _ c.drop_packet.ensures.0 c.drop_packet.ensures.1

pub returns-in-Deliver : goal.returns-in-Deliver
returns-in-Deliver c =
    deliver_left _ _ _ c.requires.0.accepted (known_bytes c.args.tables.now c.type_inv.tables) _
    (c.requires.0.decided ∙ c.in-Deliver.is)
