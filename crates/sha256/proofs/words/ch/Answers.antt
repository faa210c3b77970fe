-- `sha256::words::ch` meets its contract.
-- Assumes nothing.
use Rattle.sha256.proofs.BitLaws.{ch_law}
use Rattle.sha256.proofs.words.ch.Goals as goal

pub returns : goal.returns
returns c = ch_law 32 c.args.x c.args.y c.args.z c.ranges.x.fits c.ranges.z.fits
