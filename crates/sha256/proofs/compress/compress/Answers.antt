-- `sha256::compress::compress` meets its contract.
-- Assumes nothing.
use Rattle.sha256.specs.Compression.{compressed}
use Rattle.sha256.proofs.compress.compress.Goals as goal

pub returns : goal.returns
unfolding compressed
returns c = cc
