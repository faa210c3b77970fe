-- The hash that goes with a packet.
use Prim.Native.Nat.{ℕ}
use mathlib.Core.Bool.{false}
use mathlib.Core.List.{List}
use mathlib.Core.Path.{◌≡◌}
use Rattle.octets.proofs.Choice.{then_false}
use Rattle.packet.specs.Hash.{packet_hash}
use Rattle.rules.specs.Exempt.{exempt}
use Rattle.plan.specs.Decided.{used_hash}

module _ (p : List ℕ) where
  -- a packet that isn't exempt goes with its own hash
  pub used_own : exempt p ≡ false → used_hash p ≡ packet_hash p
  unfolding used_hash
  used_own tested = then_false _ _ tested
