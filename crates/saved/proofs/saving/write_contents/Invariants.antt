use mathlib.Core.Path.{◌≡◌}
use Prim.Native.Nat.{◌+◌}
use Rattle.octets.specs.Part.{patch}
use Rattle.recording.specs.Shape.{sum_below, contents_start}
use Rattle.editions.specs.Editions.{current, width_at}
use Rattle.saved.specs.File.{bodies_at}
use Rattle.saved.specs.Steps.{contents_bytes}
use Rattle.saved.proofs.saving.write_contents.Given as goal

abbrev pub invariant-loop-i : goal.invariant-loop-i
invariant-loop-i l =
    (l.offset ≡ bodies_at + sum_below (width_at current) l.i) × (l.room ≡ patch l.initial.room contents_start (contents_bytes l.i))
