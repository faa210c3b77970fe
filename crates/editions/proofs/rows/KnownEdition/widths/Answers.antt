use native.Mathlib.Omega.{arith}
use mathlib.Core.Path.{refl}
use Rattle.editions.specs.Steps.{widths_in}
use Rattle.editions.proofs.Widths.{known_low, known_high, known_row}
use Rattle.editions.proofs.rows.KnownEdition.widths.Goals as goal

pub overflow_sub-result : goal.overflow_sub-result
overflow_sub-result c = omega (arith, c.from.ensures, known_low _ c.args.self.known)

pub bounds-from-from : goal.bounds-from-from
bounds-from-from c = omega (arith, c.from.ensures, known_low _ c.args.self.known, known_high _ c.args.self.known)

pub returns : goal.returns
returns c = rw c.from.ensures (known_row widths_in c.args.self.number c.args.self.known refl _)
