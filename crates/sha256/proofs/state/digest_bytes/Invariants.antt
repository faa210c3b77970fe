-- `sha256::state::digest_bytes` meets its contract.
-- Assumes nothing.
use Rattle.std.proofs.Common.{◌≡◌, ◌*◌, length, take}
use Rattle.sha256.proofs.WordBytes.{all_bytes}
use Rattle.sha256.proofs.state.digest_bytes.Given as goal

abbrev pub invariant-loop-i : goal.invariant-loop-i
invariant-loop-i l = record { length : length l.bytes ≡ 32; written : take (4 * l.i) l.bytes ≡ all_bytes (take l.i l.words) }
