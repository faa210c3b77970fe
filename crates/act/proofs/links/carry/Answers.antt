use Rattle.octets.proofs.Bytes.{known_bytes}
use mathlib.Core.Path.{◌∙◌}
use Rattle.tables.proofs.Whole.{formed}
use Rattle.act.proofs.Forwards.{can_leave, carry_record, carry_left}
use Rattle.act.proofs.links.carry.Goals as goal

pub link_at-requires : goal.link_at-requires
link_at-requires c =
    ((formed _ c.requires.accepted.formed).size, (carry_record _ _ _ c.requires.accepted _ _ c.requires.decided).0)

pub renewed_link-link-requires : goal.renewed_link-link-requires
renewed_link-link-requires c = let ok = c.requires.accepted in (ok.readable, ok.clock)

pub carry-length-requires : goal.carry-length-requires
carry-length-requires c =
    (can_leave _ _ _ c.requires.accepted _ (carry_record _ _ _ c.requires.accepted _ _ c.requires.decided).1, c.requires.roomy)

pub put_link-requires : goal.put_link-requires
put_link-requires c =
    ((formed _ c.requires.accepted.formed).size, (carry_record _ _ _ c.requires.accepted _ _ c.requires.decided).0)

pub returns : goal.returns
returns c =
    carry_left _ _ _ c.requires.accepted _ _ c.requires.decided (known_bytes c.args.tables.now c.slice_known-1.given) _ _ _ _ _
    (c.renewed_link-link.ensures ∙ rw c.link_at.ensures) c.carry-length.ensures.0 c.carry-length.ensures.1
    c.put_link.ensures
