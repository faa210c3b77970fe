use Rattle.octets.proofs.Bytes.{known_bytes}
use Rattle.tables.proofs.Whole.{formed}
use Rattle.act.proofs.Forwards.{can_leave, request_record, request_room, request_id, asked_left}
use Rattle.plan.specs.Decided.{CanRead}
use Rattle.act.proofs.paths.request.Goals as goal

pub path_port-port-requires : goal.path_port-port-requires
path_port-port-requires c =
    ((formed _ c.requires.accepted.formed).size, (request_record _ _ _ c.requires.accepted _ _ _ c.requires.decided).0)

pub asked_link-link-requires : goal.asked_link-link-requires
asked_link-link-requires c =
    let ok = c.requires.accepted in
    let sized : CanRead c.args.packet.now c.args.tables.now = record { readable = ok.readable; size = (formed _ ok.formed).size } in
    (sized, (request_record _ _ _ ok _ _ _ c.requires.decided).0, ok.clock, request_id _ _ _ ok _ _ _ c.requires.decided)

pub forward-length-requires : goal.forward-length-requires
forward-length-requires c =
    let d = request_record _ _ _ c.requires.accepted _ _ _ c.requires.decided in
    (can_leave _ _ _ c.requires.accepted _ d.1, (formed _ c.requires.accepted.formed).size, d.0, c.requires.roomy)

pub put_link-requires : goal.put_link-requires
put_link-requires c =
    ((formed _ c.requires.accepted.formed).size, request_room _ _ _ c.requires.accepted _ _ _ c.requires.decided)

pub returns : goal.returns
returns c =
    asked_left _ _ _ c.requires.accepted _ _ _ c.requires.decided
    (known_bytes c.args.tables.now c.slice_known-1.given) _ _ _ _ _ _
    c.path_port-port.ensures c.asked_link-link.ensures c.forward-length.ensures.0 c.forward-length.ensures.1
    c.put_link.ensures
