use Rattle.std.proofs.Common.{◌≡◌, take}
use Rattle.tables.specs.Layout.{relay_of}
use Rattle.surveying.specs.Start.{local_calls, tables_after}
use Rattle.surveying.proofs.starting.add_locals_of.Given as goal

abbrev pub invariant-loop-place : goal.invariant-loop-place
invariant-loop-place l = l.to ≡ tables_after (local_calls (take l.place (relay_of l.from).locals)) l.initial.to
