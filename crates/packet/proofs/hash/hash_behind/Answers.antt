use Rattle.packet.proofs.ListLaws.{two_patches}
use lib.ListN.{length-replicate}
use mathlib.Core.Path.{refl, ap}
use Prim.Native.Nat.{ℕ, ◌+◌, ◌≤◌}
use mathlib.Core.List.{[], ◌∷◌}
use lib.ListN.{length, replicate}
use Rattle.sha256.specs.Sha256.{sha256_of}
use native.Mathlib.Omega.{arith}
use Rattle.numbers.specs.Numbers.{longest_packet}
use Rattle.packet.proofs.hash.hash_behind.Goals as goal

pub returns : goal.returns
returns c =
    let rest = c.args.rest.now in
    let room : 1 + length rest ≤ length (replicate {A = ℕ} longest_packet 0) = omega (arith, length-replicate {A = ℕ} longest_packet 0, c.requires) in
    rw (c.hash_start.ensures, c.copy_at.ensures, c.set_at.ensures)
    (ap sha256_of (two_patches (replicate longest_packet 0) (c.args.first ∷ []) rest 1 refl room))
