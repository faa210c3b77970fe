use Rattle.saved.proofs.LoadLaws.{EntriesPassed}
use Rattle.saved.proofs.loading.contents_wrong.Given as goal

abbrev pub invariant-loop-i : goal.invariant-loop-i
invariant-loop-i l = EntriesPassed l.file l.place l.i
