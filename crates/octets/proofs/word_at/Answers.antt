use Rattle.octets.proofs.Part.{part_eight}
use Prim.Native.Nat.{◌+◌}
use Rattle.octets.specs.BigEndian.{word}
use native.Mathlib.Omega.{arith}
use Rattle.octets.proofs.word_at.Goals as goal

pub overflow_mul-result : goal.overflow_mul-result
unfolding word
overflow_mul-result c =
    let known = c.type_inv.t in
    let at = c.args.at in
    omega (arith, c.word_of_4-2.ensures, known (at + 4), known (at + 5), known (at + 6), known (at + 7))

pub overflow_add-result : goal.overflow_add-result
unfolding word
overflow_add-result c =
    let known = c.type_inv.t in
    let at = c.args.at in
    omega (
      arith,
      c.word_of_4.ensures,
      c.word_of_4-2.ensures,
      known at,
      known (at + 1),
      known (at + 2),
      known (at + 3),
      known (at + 4),
      known (at + 5),
      known (at + 6),
      known (at + 7),
    )

pub returns : goal.returns
unfolding word
returns c = rw (part_eight c.args.t.now c.args.at c.requires) (omega (arith, c.word_of_4.ensures, c.word_of_4-2.ensures))
