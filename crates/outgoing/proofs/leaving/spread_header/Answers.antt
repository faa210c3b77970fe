use Prim.Native.Nat.{ℕ}
use mathlib.Core.Bool.{true}
use mathlib.Core.Path.{◌≡◌, refl}
use lib.Dec.{eqb}
use borrow.Author.Tests.{eqb-true}
use native.Mathlib.Omega.{arith}
use Rattle.std.specs.Prelude.{bit_and, bit_or}
use Rattle.octets.specs.Index.{◌and◌, all_below}
use Rattle.octets.proofs.Index.{all_at}
use Rattle.rules.specs.Outgoing.{spread_header}
use Rattle.outgoing.proofs.leaving.spread_header.Goals as goal

-- of each header byte
each : all_below (λ (h : ℕ). eqb (bit_or (bit_and h 47) 80) (spread_header h)) 256 ≡ true
unfolding all_below spread_header ◌and◌
each = refl

pub returns : goal.returns
returns c = eqb-true _ _ (all_at _ 256 c.args.header each (omega arith))
