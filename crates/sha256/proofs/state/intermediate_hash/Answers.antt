-- `sha256::state::intermediate_hash` meets its contract.
-- Assumes nothing.
use Rattle.sha256.specs.Compression.{intermediate_hash}
use Rattle.sha256.proofs.state.intermediate_hash.Goals as goal

pub returns : goal.returns
unfolding intermediate_hash
returns c = cc
