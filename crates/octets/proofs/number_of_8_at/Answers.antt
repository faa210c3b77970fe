use Rattle.octets.proofs.Part.{low_part}
use Rattle.octets.specs.BigEndian.{number, low_first}
use mathlib.Core.Path.{ap, ◌∙◌}
use Prim.Native.Nat.{ℕ}
use Rattle.octets.proofs.number_of_8_at.Goals as goal

pub returns : goal.returns
returns c =
    c.swapped_8.ensures ∙ ap (λ (x : ℕ). number (low_first 8 x)) c.word_at.ensures
    ∙ ap number (low_part c.args.t.now c.args.at 8 (λ i. (c.type_inv.t i).fits) c.requires)
