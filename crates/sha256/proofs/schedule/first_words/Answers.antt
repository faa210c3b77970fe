-- `sha256::schedule::first_words` meets its contract.
-- Assumes nothing.
use Rattle.std.proofs.Common.{arith, rules}
use Rattle.sha256.specs.Compression.{W}
use Rattle.sha256.proofs.ScheduleLaws.{first_words_more}
use Rattle.sha256.proofs.schedule.first_words.Goals as goal

pub loop-t-init : goal.loop-t-init
unfolding W
loop-t-init c = search rules

pub loop-t-preserved : goal.loop-t-preserved
loop-t-preserved c =
    let l = c.loop-t in
    first_words_more _ l.w l.t _ (omega arith) l.invariant c.word.ensures
