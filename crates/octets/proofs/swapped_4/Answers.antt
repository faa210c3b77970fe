use mathlib.Core.Path.{sym}
use Rattle.octets.proofs.Word.{low_lt, low_number}
use native.Mathlib.Omega.{arith}
use Rattle.octets.proofs.swapped_4.Goals as goal

pub overflow_mul-result : goal.overflow_mul-result
overflow_mul-result c = omega (arith, low_lt 2 _ c.swapped_2.ensures)

pub overflow_add-result : goal.overflow_add-result
overflow_add-result c = omega (arith, low_lt 2 _ c.swapped_2.ensures, low_lt 2 _ c.swapped_2-2.ensures)

pub returns : goal.returns
returns c = rw (c.swapped_2.ensures, c.swapped_2-2.ensures) (sym (low_number 2 2 _))
