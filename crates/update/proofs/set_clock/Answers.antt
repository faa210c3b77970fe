use Rattle.update.specs.Written.{clock_written}
use Rattle.update.proofs.set_clock.Goals as goal

pub returns : goal.returns
unfolding clock_written
returns c = c.write_number_at.ensures
