use Rattle.update.specs.Written.{rate_written}
use Rattle.update.proofs.paths.put_rate.Goals as goal

pub returns : goal.returns
unfolding rate_written
returns c = c.write_rate.ensures
