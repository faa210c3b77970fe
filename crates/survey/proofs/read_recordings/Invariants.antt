use Rattle.survey.specs.Reading.{lent, ReadsFrom}
use Rattle.survey.proofs.read_recordings.Given as goal

abbrev pub invariant-loop-i : goal.invariant-loop-i
invariant-loop-i g l = ReadsFrom (lent 0 l.start l.fn.work l.fn.counts l.fn.refusals) l.start l.work l.counts l.refusals
