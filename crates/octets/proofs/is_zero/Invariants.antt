use Prim.Native.Nat.{◌-◌}
use mathlib.Core.Path.{◌≡◌}
use lib.Dec.{eqb}
use lib.ListN.{length, drop}
use Rattle.octets.specs.Index.{◌and◌, zeros}
use Rattle.octets.specs.Part.{part}
use Rattle.octets.proofs.is_zero.Given as goal

abbrev pub invariant-loop-word : goal.invariant-loop-word
invariant-loop-word l = record {
  size : l.word-iterator.size ≡ 8;
  rest : l.word-iterator.rest.now ≡ drop (length l.s - length l.word-iterator.rest.now) l.s;
  zero : eqb l.x 0 ≡ ((zeros 8 (part l.s l.last 8) and zeros 16 l.s) and zeros (length l.s - length l.word-iterator.rest.now) l.s);
}
