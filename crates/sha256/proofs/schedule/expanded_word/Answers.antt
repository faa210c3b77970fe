-- `sha256::schedule::expanded_word` meets its contract.
-- Assumes nothing.
use Rattle.sha256.specs.Compression.{expanded_word}
use Rattle.sha256.proofs.schedule.expanded_word.Goals as goal

pub returns : goal.returns
unfolding expanded_word
returns c = cc
