-- `sha256::pad::padded_rest` meets its contract.
-- Assumes nothing.
use Rattle.std.proofs.Common.{◌∙◌, arith}
use Rattle.sha256.proofs.PaddingLaws.{padded_rest_law}
use Rattle.sha256.proofs.pad.padded_rest.Goals as goal

pub returns : goal.returns
returns c =
    let a = c.args in
    let f = c.zero_filled-b in
    padded_rest_law a.rest.now a.n a.end (omega arith) (omega arith) f.result _ f.ensures (c.copy_from_slice.ensures.after ∙ c.to_be_bytes.ensures)
