use mathlib.Core.Path.{sym, ap}
use lib.ListN.{replicate, length-replicate}
use Prim.Native.Nat.{ℕ}
use Rattle.packet.specs.Announce.{announced_destination}
use Rattle.packet.specs.Places.{name_hash_at, blob_at}
use Rattle.announcing.specs.Announcing.{destination}
use Rattle.announcing.proofs.WriteLaws.{filled}
use native.Mathlib.Omega.{arith}
use Rattle.announcing.proofs.Announce.destination.Goals as goal

pub returns : goal.returns
unfolding destination
returns c =
    let i = c.self.inside in
    let pre = rw (sym c.self.view_is) at c.requires in
    rw (c.announced_destination.ensures, c.copy_at-2.ensures, c.copy_at.ensures, sym c.self.view_is)
    (ap announced_destination
    (filled (replicate blob_at 0) i.keys.now i.name_hash.now name_hash_at pre.0 (omega (arith, pre.1, length-replicate {A = ℕ} blob_at 0))))
