use native.Mathlib.Omega.{arith}
use mathlib.Core.Path.{refl}
use Rattle.recording.specs.Writer.{given_word}
use Rattle.recording.proofs.WriteLaws.{given_within}
use Rattle.recording.proofs.writer.given_word.Goals as goal

pub overflow_mul-result : goal.overflow_mul-result
overflow_mul-result c = record { fits = omega (arith, given_within c.args.entries.now c.args.i c.requires) }

pub overflow_add-result : goal.overflow_add-result
overflow_add-result c = record { fits = omega (arith, given_within c.args.entries.now c.args.i c.requires) }

pub bounds-entries-i : goal.bounds-entries-i
bounds-entries-i c = omega (arith, given_within c.args.entries.now c.args.i c.requires)

pub returns : goal.returns
unfolding given_word
returns c = refl
