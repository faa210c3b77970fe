use mathlib.Core.Path.{◌≡◌}
use lib.ListN.{take}
use Rattle.text.specs.Numerals.{hexadecimal}
use Rattle.text.specs.Text.{appended}
use Rattle.text.proofs.numerals.with_hexadecimal.Given as goal

abbrev pub invariant-loop-byte : goal.invariant-loop-byte
invariant-loop-byte l = l.grown ≡ appended l.initial.grown (hexadecimal (take l.byte-index l.bytes))
