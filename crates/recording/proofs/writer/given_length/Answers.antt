use native.Mathlib.Omega.{arith}
use Rattle.recording.specs.Writer.{given_length}
use Rattle.recording.proofs.WriteLaws.{given_within}
use Rattle.recording.proofs.writer.given_length.Goals as goal

pub overflow_mul-i : goal.overflow_mul-i
overflow_mul-i c = record { fits = omega (arith, given_within c.args.entries.now c.args.i c.requires) }

pub overflow_add-i : goal.overflow_add-i
overflow_add-i c = record { fits = omega (arith, given_within c.args.entries.now c.args.i c.requires) }

pub number_at-requires : goal.number_at-requires
number_at-requires c = (omega arith, omega (arith, given_within c.args.entries.now c.args.i c.requires))

pub returns : goal.returns
unfolding given_length
returns c = c.number_at.ensures
