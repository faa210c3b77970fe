use mathlib.Core.Path.{◌≡◌}
use mathlib.Core.List.{◌++◌}
use lib.ListN.{length, drop}
use Rattle.octets.specs.BigEndian.{big_endian}
use Rattle.octets.proofs.write_number.Given as goal

abbrev pub invariant-loop-i : goal.invariant-loop-i
invariant-loop-i l = (length l.s ≡ length l.initial.s) × (big_endian (length l.initial.s) l.x ≡ big_endian l.i l.y ++ drop l.i l.s)
