use mathlib.Core.Path.{sym, ap, ◌∙◌}
use lib.ListN.{length}
use Rattle.octets.specs.Part.{patch}
use Rattle.packet.proofs.ReadLaws.{reads_readable}
use Rattle.rules.proofs.Lengths.{path_last, path_next_hop}
use Rattle.outgoing.proofs.LeavingLaws.{long, path_room}
use native.Mathlib.Omega.{arith}
use Rattle.packet.specs.Read.{longest_packet}
use Prim.Native.Nat.{◌+◌, ◌%◌, ◌≤◌}
use Rattle.packet.specs.Read.{header_of, payload_start, payload}
use Rattle.outgoing.proofs.leaving.forward_by_path.Goals as goal
use Rattle.outgoing.proofs.leaving.forward_by_path.Goals.{Start}

-- the packet stays as long, or loses the relay address
room : (c : Start) → (payload_start (header_of c.args.packet.now % 16) + length (payload c.args.packet.now) ≤ length c.args.output.now)
    × (payload_start (header_of c.args.packet.now) + length (payload c.args.packet.now) ≤ length c.args.output.now)
room c =
    let p = c.args.packet.now in
    let few = path_room longest_packet p c.requires.0.readable in
    let fits = (reads_readable longest_packet p c.requires.0.readable).fits in
    (omega (arith, few.0, fits, c.requires.1), omega (arith, few.1, fits, c.requires.1))

pub bounds-packet-0 : goal.bounds-packet-0
bounds-packet-0 c = omega (arith, long longest_packet c.args.packet.now c.requires.0.readable)

pub rewrite-requires : goal.rewrite-requires
rewrite-requires c = (c.requires.0, (room (goal.at.rewrite-requires c).Start).0)

pub returns-then-stored_hops-eq0 : goal.returns-then-stored_hops-eq0
returns-then-stored_hops-eq0 c =
    let a = c.args in
    let last = path_last a.stored_hops a.next_hop a.packet.now c.if-stored_hops-eq0.true in
    let sent = c.rewrite.ensures in
    (sent.0 ∙ sym (ap length last), sent.1 ∙ sym (ap (patch a.output.now 0) last))

pub rewrite-requires-2 : goal.rewrite-requires-2
rewrite-requires-2 c = (c.requires.0, (room (goal.at.rewrite-requires-2 c).Start).1)

pub returns : goal.returns
returns c =
    let a = c.args in
    let next = path_next_hop a.stored_hops a.next_hop a.packet.now c.if-stored_hops-eq0.false in
    let sent = c.rewrite-2.ensures in
    (sent.0 ∙ sym (ap length next), sent.1 ∙ sym (ap (patch a.output.now 0) next))
