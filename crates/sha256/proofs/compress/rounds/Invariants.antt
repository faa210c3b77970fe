-- `sha256::compress::rounds` meets its contract.
-- Assumes nothing.
use Rattle.std.proofs.Common.{◌≡◌, ◌+◌, ◌-◌, ◌%◌, ◌≤◌, length, take}
use Rattle.sha256.specs.Compression.{W, after_rounds}
use Rattle.sha256.proofs.compress.rounds.Given as goal

abbrev pub invariant-loop-t : goal.invariant-loop-t
invariant-loop-t l = (l.t ≤ 48) × (l.t % 8 ≡ 0) × (length l.w ≡ 64) × (take (l.t + 16) l.w ≡ W l.block (l.t + 16)) × (l.r ≡ after_rounds l.initial.r (W l.block 64) l.t)

abbrev pub decreases-loop-t : goal.decreases-loop-t
decreases-loop-t l = 48 - l.t
