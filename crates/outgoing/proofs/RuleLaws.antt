-- What decides by which ports an announce is spread, and whether it is kept: its length.
use Prim.Native.Nat.{ℕ}
use mathlib.Core.Bool.{true}
use mathlib.Core.List.{List}
use mathlib.Core.Path.{◌≡◌, ap}
use lib.ListN.{length}
use lib.Dec.{ltb}
use Rattle.packet.specs.Read.{longest_packet, reads}
use Rattle.rules.specs.Outgoing.{spread_packet, exceeds}
use Rattle.outgoing.specs.Leaving.{spread_length}
use Rattle.outgoing.proofs.LeavingLaws.{spread_length_lem}
use Rattle.numbers.specs.Numbers.{address_width}

pub spread_exceeds : (own p : List ℕ) → reads longest_packet p ≡ true → length own ≡ address_width
    → (size : ℕ) → exceeds (spread_packet own p) size ≡ ltb size (spread_length p)
unfolding exceeds
spread_exceeds own p h wide size = ap (ltb size) (spread_length_lem longest_packet p h own wide)
