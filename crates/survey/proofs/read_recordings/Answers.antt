use Rattle.survey.proofs.Printing.{reads_none, reads_more}
use Rattle.survey.proofs.read_recordings.Goals as goal

pub loop-i-init : goal.loop-i-init
loop-i-init g c = reads_none _ _ _ _

pub loop-i-preserved : goal.loop-i-preserved
loop-i-preserved g c = reads_more _ _ _ _ _ _ _ _ _ _ c.loop-i.invariant c.add_recording.ensures

pub returns-then-has_argument : goal.returns-then-has_argument
returns-then-has_argument g c = reads_more _ _ _ _ _ _ _ _ _ _ c.loop-i.invariant c.add_recording-then-has_argument.ensures
