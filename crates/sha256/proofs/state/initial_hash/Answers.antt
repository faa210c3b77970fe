-- `sha256::state::initial_hash` meets its contract.
-- Assumes nothing.
use Rattle.sha256.specs.Constants.{initial_hash}
use Rattle.std.proofs.Common.{rules}
use Rattle.sha256.proofs.state.initial_hash.Goals as goal

pub returns : goal.returns
unfolding initial_hash
returns c = search rules
