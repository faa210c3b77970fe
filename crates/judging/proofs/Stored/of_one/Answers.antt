use Rattle.std.proofs.Common.{arith}
use Rattle.rules.specs.Blobs.{one_blob}
use Rattle.std.proofs.Common.{refl}
use Rattle.judging.proofs.Stored.of_one.Goals as goal

pub returns : goal.returns
unfolding one_blob
returns c = (refl, omega arith)
