-- `sha256::schedule::first_words` meets its contract.
-- Assumes nothing.
use Rattle.std.proofs.Common.{◌≡◌, ◌-◌, ◌++◌, replicate}
use Rattle.sha256.specs.Compression.{W}
use Rattle.sha256.proofs.schedule.first_words.Given as goal

abbrev pub invariant-loop-t : goal.invariant-loop-t
invariant-loop-t l = l.w ≡ W l.block l.t ++ replicate (64 - l.t) 0
