-- `sha256::state::temporary1` meets its contract.
-- Assumes nothing.
use Rattle.sha256.specs.Compression.{T₁}
use Rattle.sha256.proofs.state.temporary1.Goals as goal

pub returns : goal.returns
unfolding T₁
returns c = cc
