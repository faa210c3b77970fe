use Prim.Native.Nat.{◌^◌, ◌<◌}
use mathlib.Core.Path.{◌≡◌}
use mathlib.Core.List.{◌++◌}
use lib.ListN.{length, drop}
use Rattle.text.specs.Numerals.{decimal, most_digits}
use Rattle.text.proofs.numerals.write_decimal.Given as goal

abbrev pub invariant-loop-at : goal.invariant-loop-at
invariant-loop-at l =
    record {
      first : 0 < l.at;
      length : length l.digits ≡ most_digits;
      fits : l.rest < 10 ^ l.at;
      written : decimal l.x ≡ decimal l.rest ++ drop l.at l.digits;
    }
