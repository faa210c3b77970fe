use Rattle.octets.proofs.Bytes.{known_bytes}
use Rattle.tables.proofs.Whole.{formed}
use Rattle.act.proofs.Forwards.{can_leave, data_record, data_left}
use Rattle.act.proofs.paths.send.Goals as goal

pub path_port-port-requires : goal.path_port-port-requires
path_port-port-requires c =
    ((formed _ c.requires.0.accepted.formed).size, (data_record _ _ _ c.requires.0.accepted _ c.requires.0.decided).0)

pub forward-length-requires : goal.forward-length-requires
forward-length-requires c =
    let d = data_record _ _ _ c.requires.0.accepted _ c.requires.0.decided in
    (can_leave _ _ _ c.requires.0.accepted _ d.1, (formed _ c.requires.0.accepted.formed).size, d.0, c.requires.0.roomy)

pub returns : goal.returns
returns c =
    data_left _ _ _ c.requires.0.accepted _ c.requires.0.decided
    (known_bytes c.args.tables.now c.slice_known-1.given) _ _ _ _ _
    c.path_port-port.ensures c.forward-length.ensures.0 c.forward-length.ensures.1 _ c.requires.1
    c.put_return.ensures
