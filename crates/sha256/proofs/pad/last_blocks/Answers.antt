-- `sha256::pad::last_blocks` meets its contract.
-- Assumes nothing.
use Rattle.std.proofs.Common.{sym, arith, length-take-le}
use Rattle.sha256.proofs.BlockLaws.{buffer_front, one_block, two_blocks}
use Rattle.sha256.proofs.pad.last_blocks.Goals as goal

pub slice_bounds-compress-end : goal.slice_bounds-compress-end
slice_bounds-compress-end c = sym (length-take-le 64 c.padded_rest-b.result (omega arith))

pub compress-requires : goal.compress-requires
compress-requires c = length-take-le 64 c.padded_rest-b.result (omega arith)

pub slice_bounds-compress-end-else-n-lt56 : goal.slice_bounds-compress-end-else-n-lt56
slice_bounds-compress-end-else-n-lt56 c = sym (length-take-le 64 c.padded_rest-b-else-n-lt56.result (omega arith))

pub compress-r-requires : goal.compress-r-requires
compress-r-requires c = length-take-le 64 c.padded_rest-b-else-n-lt56.result (omega arith)

pub returns-then-n-lt56 : goal.returns-then-n-lt56
returns-then-n-lt56 c =
    let t = c.padded_rest-b in
    let m = c.args.message.now in
    let front = buffer_front m t.result 64 (omega arith) t.ensures in
    one_block m c.args.s t.result c.requires.1 c.compress.result (omega arith) front c.compress.ensures

pub returns-else-n-lt56 : goal.returns-else-n-lt56
returns-else-n-lt56 c =
    let t = c.padded_rest-b-else-n-lt56 in
    let m = c.args.message.now in
    let front = buffer_front m t.result 128 (omega arith) t.ensures in
    two_blocks m c.args.s t.result c.requires.1 c.compress-r.result c.compress-else-n-lt56.result (omega arith) (omega arith) front
    c.compress-r.ensures c.compress-else-n-lt56.ensures
