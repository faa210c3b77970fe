use mathlib.Core.Path.{◌≡◌}
use Prim.Native.Nat.{◌+◌}
use lib.ListN.{length}
use Rattle.octets.specs.Part.{patch}
use Rattle.recording.specs.Shape.{contents_start}
use Rattle.recording.specs.Writer.{given_start}
use Rattle.recording.specs.Steps.{copied_items}
use Rattle.recording.proofs.writer.write_contents.Given as goal

abbrev pub invariant-loop-i : goal.invariant-loop-i
invariant-loop-i l =
    record {
      length : length l.room ≡ length l.initial.room;
      offset : l.offset ≡ l.at + given_start l.entries l.i;
      written : l.room ≡ patch l.initial.room contents_start (copied_items l.entries l.at l.i);
    }
