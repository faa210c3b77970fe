use Rattle.octets.proofs.Bytes.{known_bytes}
use Rattle.tables.proofs.Whole.{formed}
use Rattle.act.proofs.Forwards.{can_leave, receipt_record, receipt_left}
use Rattle.act.proofs.returns.receipt.Goals as goal

pub carry-length-requires : goal.carry-length-requires
carry-length-requires c =
    (can_leave _ _ _ c.requires.accepted _ (receipt_record _ _ _ c.requires.accepted _ _ c.requires.decided).1, c.requires.roomy)

pub empty_return-requires : goal.empty_return-requires
empty_return-requires c =
    ((formed _ c.requires.accepted.formed).size, (receipt_record _ _ _ c.requires.accepted _ _ c.requires.decided).0)

pub returns : goal.returns
returns c =
    receipt_left _ _ _ c.requires.accepted _ _ c.requires.decided (known_bytes c.args.tables.now c.slice_known-1.given) _ _ _ _
    c.carry-length.ensures.0 c.carry-length.ensures.1 c.empty_return.ensures
