use Prim.Native.Nat.{ℕ, ◌≤◌}
use native.Mathlib.Omega.{arith}
use mathlib.Core.Path.{◌≡◌, subst}
use Rattle.std.proofs.Common.{Result, Ok}
use Rattle.numbers.specs.Refusals.{written_as}
use Rattle.numbers.specs.declared.refusal.Refusal.{Refusal}
use Rattle.recording.specs.Format.{longest_file}
use Rattle.crossing.specs.Packets.{written_number}
use Rattle.haskumye.proofs.announces.written_number.Goals as goal

short : (written : Result ℕ Refusal) (length : ℕ) → written ≡ Ok length → (written_as written).length ≤ longest_file → length ≤ longest_file
short written length e most = subst (λ (x : Result ℕ Refusal). (written_as x).length ≤ longest_file) e most

pub overflow_cast-result : goal.overflow_cast-result
overflow_cast-result c = record { fits = omega (arith, short _ _ c.in-Ok.is c.requires) }

pub overflow_mul-result : goal.overflow_mul-result
overflow_mul-result c = record { fits = omega (arith, short _ _ c.in-Ok.is c.requires) }

pub returns-in-Ok : goal.returns-in-Ok
unfolding written_number
returns-in-Ok c = rw c.in-Ok.is (omega arith)

pub returns-in-Err : goal.returns-in-Err
unfolding written_number
returns-in-Err c = rw c.in-Err.is (omega (arith, c.from.ensures, c.number.ensures))
