-- `sha256::state::round` meets its contract.
-- Assumes nothing.
use Rattle.sha256.specs.Compression.{after_round}
use Rattle.sha256.proofs.state.round.Goals as goal

pub returns : goal.returns
unfolding after_round
returns c = cc
