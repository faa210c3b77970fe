use mathlib.Core.Path.{sym}
use Rattle.octets.proofs.Word.{low_lt, low_number}
use native.Mathlib.Omega.{arith}
use Rattle.octets.proofs.swapped_8.Goals as goal

pub overflow_mul-result : goal.overflow_mul-result
overflow_mul-result c = omega (arith, low_lt 4 _ c.swapped_4.ensures)

pub overflow_add-result : goal.overflow_add-result
overflow_add-result c = omega (arith, low_lt 4 _ c.swapped_4.ensures, low_lt 4 _ c.swapped_4-2.ensures)

pub returns : goal.returns
returns c = rw (c.swapped_4.ensures, c.swapped_4-2.ensures) (sym (low_number 4 4 _))
