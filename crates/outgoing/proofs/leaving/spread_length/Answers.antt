use mathlib.Core.Path.{ap}
use Prim.Native.Nat.{ℕ, ◌+◌}
use mathlib.Core.List.{List}
use lib.ListN.{length}
use Rattle.outgoing.specs.Leaving.{spread_length}
use Rattle.packet.specs.Places.{type_two_start}
use Rattle.outgoing.proofs.leaving.spread_length.Goals as goal

pub returns : goal.returns
unfolding spread_length
returns c = ap (λ (b : List ℕ). type_two_start + length b) c.payload.ensures
