use Rattle.packet.specs.Announce.{name_hash_of, announced_destination}
use Rattle.packet.specs.Places.{address_width, name_hash_at, name_hash_width}
use Rattle.packet.proofs.ListLaws.{part_most, two_patches}
use mathlib.Core.Path.{◌≡◌, refl, ap, ap₂, ◌∙◌}
use lib.Dec.{lit≤}
use lib.ListN.{length-replicate}
use Prim.Native.Nat.{ℕ, ◌+◌, ◌≤◌}
use mathlib.Core.List.{List, ◌++◌}
use lib.ListN.{length, take, replicate}
use Rattle.sha256.specs.Sha256.{sha256_of}
use native.Mathlib.Omega.{arith}
use borrow.Author.Rules.{rules}
use Rattle.packet.proofs.announce.announced_destination.Goals as goal

name-short : (body name : List ℕ) → name ≡ name_hash_of body → length name ≤ name_hash_width
unfolding name_hash_of
name-short body name e = rw e (part_most body name_hash_at name_hash_width name_hash_width (lit≤ tt))

pub copy_at-requires : goal.copy_at-requires
copy_at-requires c = omega (arith, name-short _ _ c.name_hash-name.ensures)

pub copy_at-requires-2 : goal.copy_at-requires-2
copy_at-requires-2 c =
    let wide : length c.identity_hash-identity.result ≡ address_width = search rules in
    omega (arith, name-short _ _ c.name_hash-name.ensures, c.copy_at.auto.t)

pub hash_start-requires : goal.hash_start-requires
hash_start-requires c =
    let short = name-short _ _ c.name_hash-name.ensures in
    (omega (arith, c.copy_at.auto.t, c.copy_at-2.auto.t), omega arith)

pub returns : goal.returns
unfolding announced_destination
returns c =
    let wide : length c.identity_hash-identity.result ≡ address_width =
    search rules in
    let name = c.name_hash-name in
    let id = c.identity_hash-identity in
    let n = length name.result.now in
    let short : n ≤ name_hash_width = name-short _ _ name.ensures in
    let long : n + address_width ≡ n + length id.result = omega arith in
    let room : n + length id.result ≤ length (replicate {A = ℕ} (name_hash_width + address_width) 0) =
    omega (arith, length-replicate {A = ℕ} (name_hash_width + address_width) 0) in
    rw (c.first_sixteen.ensures, c.hash_start.ensures, c.copy_at-2.ensures, c.copy_at.ensures, long)
    (ap (λ (m : List ℕ). take address_width (sha256_of m))
    (two_patches (replicate (name_hash_width + address_width) 0) name.result.now id.result n refl room
    ∙ ap₂ (λ (x y : List ℕ). x ++ y) name.ensures id.ensures))
