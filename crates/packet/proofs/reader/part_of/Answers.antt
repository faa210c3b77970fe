use mathlib.Core.Path.{ap, ◌∙◌}
use Prim.Native.Nat.{ℕ}
use lib.ListN.{take}
use Rattle.std.proofs.lemmas.List.{take_min}
use Rattle.octets.specs.Part.{part}
use Rattle.packet.proofs.reader.part_of.Goals as goal

pub returns : goal.returns
unfolding part
returns c =
    let a = c.args in
    let rest = c.from-rest.result.now in
    ap (λ (k : ℕ). take k rest) c.min.ensures ∙ take_min a.n rest ∙ ap (take a.n) c.from-rest.ensures
