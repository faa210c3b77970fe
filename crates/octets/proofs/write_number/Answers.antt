use lib.Arith.{le-zero}
use lib.ListN.{drop, length-set}
use mathlib.Core.List.{◌++◌}
use mathlib.Core.Path.{sym, ap, ◌∙◌}
use native.Mathlib.Omega.{arith}
use Prim.Native.Nat.{ℕ}
use Rattle.octets.proofs.BigEndian.{big_endian_turn}
use Rattle.octets.specs.BigEndian.{big_endian}
use Rattle.octets.proofs.write_number.Goals as goal

pub loop-i-preserved : goal.loop-i-preserved
loop-i-preserved c =
    let inv = c.loop-i.invariant in (
      simp length-set (omega arith),
      rw c.low_byte.ensures (big_endian_turn _ _ _ _ c.loop-i-test.true (omega arith) inv.1),
    )

pub returns : goal.returns
unfolding big_endian
returns c =
    let l = c.loop-i in
    sym (l.invariant.1 ∙ ap (λ (k : ℕ). big_endian k l.y ++ drop k l.s) (le-zero c.loop-i-test.false))
