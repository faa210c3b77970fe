use mathlib.Core.Path.{◌≡◌}
use lib.ListN.{length}
use Rattle.tables.specs.Places.{table_size}
use Rattle.tables.specs.Layout.{bytes_of}
use Rattle.update.proofs.Sweep.{swept_to}
use Rattle.update.proofs.returns.empty_each.Given as goal

abbrev pub invariant-loop-place : goal.invariant-loop-place
invariant-loop-place l = (length l.tables ≡ table_size) × (l.tables ≡ bytes_of (swept_to l.clock l.key l.initial.tables l.place))
