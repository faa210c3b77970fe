use Rattle.packet.proofs.ReadLaws.{reads_readable, start_least}
use mathlib.Core.Path.{sym}
use Prim.Native.Nat.{◌+◌, ◌-◌}
use Rattle.packet.specs.Read.{header_of}
use Rattle.packet.specs.Places.{end_width, link_payload_width}
use Rattle.packet.proofs.HashLaws.{link_hashed}
use Rattle.packet.proofs.ListLaws.{part_most}
use lib.Dec.{lit≤}
use native.Mathlib.Omega.{arith}
use Rattle.numbers.specs.Numbers.{longest_packet}
use Rattle.packet.proofs.hash.link_id_of.Goals as goal

pub bounds-packet-0 : goal.bounds-packet-0
bounds-packet-0 c =
    let p = c.args.packet.now in
    omega (arith, start_least (header_of p), (reads_readable longest_packet p c.requires).whole)

pub overflow_sub-at : goal.overflow_sub-at
overflow_sub-at c = omega (arith, start_least (header_of c.args.packet.now), c.payload_start-at.ensures)

pub hash_behind-requires : goal.hash_behind-requires
hash_behind-requires c =
    let p = c.args.packet.now in
    let start = c.payload_start-at.result in
    let short = part_most p (start - end_width) (end_width + link_payload_width) (end_width + link_payload_width) (lit≤ tt) in
    rw c.part_of.ensures (omega (arith, short))

pub returns : goal.returns
returns c =
    let p = c.args.packet.now in
    rw (c.first_sixteen.ensures, c.hash_behind.ensures, c.part_of.ensures, c.payload_start-at.ensures)
    (sym (link_hashed p (reads_readable longest_packet p c.requires).whole))
