use Rattle.std.proofs.Common.{ap}
use Rattle.recording.specs.Reader.{Fields}
use Rattle.surveying.proofs.replays.port_of.Goals as goal

pub returns-in-Some : goal.returns-in-Some
returns-in-Some c = ap (λ (f : Fields). f.port) c.in-Some.ensures

pub returns-in-None : goal.returns-in-None
returns-in-None c = ap (λ (f : Fields). f.port) c.in-None.ensures
