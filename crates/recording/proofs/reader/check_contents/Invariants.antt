use Rattle.recording.proofs.ReadLaws.{EntriesPassed}
use Rattle.recording.proofs.reader.check_contents.Given as goal

abbrev pub invariant-loop-i : goal.invariant-loop-i
invariant-loop-i l = EntriesPassed l.file l.words l.place l.i
