-- What a caller shows of a packet that reads, over well-formed tables.
use Prim.Native.Nat.{ℕ}
use mathlib.Core.List.{List}
use mathlib.Core.Path.{◌≡◌}
use lib.ListN.{length}
use Rattle.outgoing.proofs.Steps.{reading}
use Rattle.tables.specs.Places.{table_size}
use Rattle.tables.proofs.Whole.{formed}
use Rattle.plan.specs.Decided.{CanRead, CanJudge}

module _ (packet t : List ℕ) (judged : CanJudge packet t) where
  pub judged_size : length t ≡ table_size
  judged_size = (formed t judged.formed).size

  pub judged_reads : CanRead packet t
  judged_reads = record { readable = judged.readable; size = judged_size }

pub ruleset judging = (reading, judged_size, judged_reads)
