use lib.ListN.{length}
use mathlib.Core.Bool.{false}
use mathlib.Core.Path.{◌≡◌, sym}
use Rattle.announcing.proofs.Lengths.{Buildable, buildable, head_one}
use Rattle.announcing.proofs.WriteLaws.{announce_written}
use Rattle.packet.specs.Header.{type_two}
use Rattle.packet.proofs.ReadLaws.{start_one}
use native.Mathlib.Omega.{arith}
use Rattle.announcing.proofs.Announce.write_announce.Goals as goal
use Rattle.announcing.proofs.Announce.write_announce.Goals.{Start}

able : (c : Start) → Buildable c.args.self.now c.args.signature.now (length c.args.room.now)
able c = buildable c.args.self.now c.args.signature.now (length c.args.room.now) c.requires

pub destination-requires : goal.destination-requires
destination-requires c = let w = (able (goal.at.destination-requires c).Start).lengths in (w.keys, w.name_hash)

pub write_packet-requires : goal.write_packet-requires
write_packet-requires c =
    let head = c.head-parts.result.header in
    let one : type_two head ≡ false = rw c.head-parts.ensures (head_one c.destination.result (length c.self.inside.ratchet.now)) in
    omega (arith, start_one head one, (able (goal.at.write_packet-requires c).Start).roomy)

pub write_fields-requires : goal.write_fields-requires
write_fields-requires c =
    let b = able (goal.at.write_fields-requires c).Start in
    (b.lengths.keys, b.lengths.name_hash, b.lengths.random, omega (arith, b.short, b.roomy))

pub copy_at-requires : goal.copy_at-requires
copy_at-requires c =
    let b = rw (sym c.self.view_is) at (able (goal.at.copy_at-requires c).Start) in
    omega (arith, b.short, b.roomy, b.lengths.signature)

pub copy_at-requires-2 : goal.copy_at-requires-2
copy_at-requires-2 c =
    let b = rw (sym c.self.view_is) at (able (goal.at.copy_at-requires-2 c).Start) in
    omega (arith, b.short, b.roomy)

pub returns : goal.returns
returns c =
    let b = rw (sym c.self.view_is) at (able (goal.at.returns c).Start) in
    rw (
      c.copy_at-2.ensures,
      c.copy_at.ensures,
      c.write_fields.ensures,
      c.write_packet.ensures,
      c.head-parts.ensures,
      c.destination.ensures,
      sym c.self.view_is,
    )
    (announce_written _ c.args.signature.now c.args.room.now b)
