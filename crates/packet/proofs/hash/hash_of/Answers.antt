use Rattle.packet.proofs.ReadLaws.{reads_readable, start_least}
use mathlib.Core.Path.{sym}
use Prim.Native.Nat.{◌≤◌}
use Rattle.packet.specs.Read.{header_of}
use Rattle.packet.specs.Places.{type_one_start}
use Rattle.packet.proofs.HashLaws.{packet_hashed, behind_short}
use native.Mathlib.Omega.{arith}
use Rattle.numbers.specs.Numbers.{longest_packet}
use Rattle.packet.proofs.hash.hash_of.Goals as goal

pub bounds-packet-0 : goal.bounds-packet-0
bounds-packet-0 c =
    let p = c.args.packet.now in
    omega (arith, start_least (header_of p), (reads_readable longest_packet p c.requires).whole)

pub overflow_sub-at : goal.overflow_sub-at
overflow_sub-at c = omega (arith, start_least (header_of c.args.packet.now), c.payload_start-at.ensures)

pub hash_behind-requires : goal.hash_behind-requires
hash_behind-requires c =
    let p = c.args.packet.now in
    let least : type_one_start ≤ c.payload_start-at.result = omega (arith, start_least (header_of p), c.payload_start-at.ensures) in
    rw c.from.ensures (behind_short p c.payload_start-at.result least (reads_readable longest_packet p c.requires).fits)

pub returns : goal.returns
returns c =
    let p = c.args.packet.now in
    rw (c.hash_behind.ensures, c.from.ensures, c.payload_start-at.ensures)
    (sym (packet_hashed p (reads_readable longest_packet p c.requires).whole))
