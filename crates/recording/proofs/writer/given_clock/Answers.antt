use native.Mathlib.Omega.{arith}
use Rattle.recording.specs.Writer.{given_clock}
use Rattle.recording.proofs.WriteLaws.{given_within}
use Rattle.recording.proofs.writer.given_clock.Goals as goal

pub overflow_mul-i : goal.overflow_mul-i
overflow_mul-i c = record { fits = omega (arith, given_within c.args.entries.now c.args.i c.requires) }

pub number_of_8_at-requires : goal.number_of_8_at-requires
number_of_8_at-requires c = omega (arith, given_within c.args.entries.now c.args.i c.requires)

pub returns : goal.returns
unfolding given_clock
returns c = c.number_of_8_at.ensures
