use lib.ListN.{length}
use mathlib.Core.Path.{◌≡◌, sym}
use Rattle.announcing.specs.Announcing.{any_signature}
use Rattle.announcing.proofs.Lengths.{Buildable, buildable}
use Rattle.announcing.proofs.WriteLaws.{signed_written}
use native.Mathlib.Omega.{arith}
use borrow.Author.Rules.{rules}
use Rattle.packet.specs.Places.{address_width}
use Rattle.announcing.proofs.Announce.write_signed.Goals as goal
use Rattle.announcing.proofs.Announce.write_signed.Goals.{Start}

able : (c : Start) → Buildable c.args.self.now any_signature (length c.args.room.now)
able c = buildable c.args.self.now any_signature (length c.args.room.now) c.requires

pub destination-requires : goal.destination-requires
destination-requires c = let w = (able (goal.at.destination-requires c).Start).lengths in (w.keys, w.name_hash)

pub copy_at-requires : goal.copy_at-requires
copy_at-requires c =
    let wide : length c.destination.result ≡ address_width = search rules in
    omega (arith, (able (goal.at.copy_at-requires c).Start).roomy)

pub write_fields-requires : goal.write_fields-requires
write_fields-requires c =
    let b = able (goal.at.write_fields-requires c).Start in
    (b.lengths.keys, b.lengths.name_hash, b.lengths.random, omega (arith, b.short, b.roomy))

pub copy_at-requires-2 : goal.copy_at-requires-2
copy_at-requires-2 c =
    let b = rw (sym c.self.view_is) at (able (goal.at.copy_at-requires-2 c).Start) in
    omega (arith, b.short, b.roomy)

pub returns : goal.returns
returns c =
    let b = rw (sym c.self.view_is) at (able (goal.at.returns c).Start) in
    rw (
      c.copy_at-2.ensures,
      c.write_fields.ensures,
      c.copy_at.ensures,
      c.destination.ensures,
      sym c.self.view_is,
    )
    (signed_written _ any_signature c.args.room.now b)
