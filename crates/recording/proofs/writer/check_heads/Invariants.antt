use Rattle.recording.proofs.WriteLaws.{HeadsPassed}
use Rattle.recording.proofs.writer.check_heads.Given as goal

abbrev pub invariant-loop-i : goal.invariant-loop-i
invariant-loop-i l = HeadsPassed l.entries l.words l.clocks l.i
