-- `sha256::state::temporary2` meets its contract.
-- Assumes nothing.
use Rattle.sha256.specs.Compression.{T₂}
use Rattle.sha256.proofs.state.temporary2.Goals as goal

pub returns : goal.returns
unfolding T₂
returns c = cc
