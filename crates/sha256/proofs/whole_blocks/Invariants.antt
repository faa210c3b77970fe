-- `sha256::whole_blocks` meets its contract.
-- Assumes nothing.
use Rattle.std.proofs.Common.{◌≡◌, ◌*◌, ◌≤◌, length, drop}
use Rattle.std.specs.Slice.Iter.{chunks_exact_rest, chunks_exact_size}
use Rattle.sha256.specs.Sha256.{hash_after}
use Rattle.sha256.proofs.whole_blocks.Given as goal

abbrev pub invariant-loop-block : goal.invariant-loop-block
invariant-loop-block l =
    record {
      size : chunks_exact_size l.block-iterator ≡ 64;
      within : 64 * length l.yielded ≤ length l.message;
      rest : chunks_exact_rest l.block-iterator ≡ drop (64 * length l.yielded) l.message;
      hash : l.s ≡ hash_after l.message (length l.yielded);
    }
