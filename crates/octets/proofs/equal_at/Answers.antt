use Prim.Native.Nat.{ℕ}
use mathlib.Core.Path.{ap₂, ◌∙◌}
use mathlib.Core.List.{List}
use lib.ListN.{length}
use Rattle.octets.specs.Index.{agree}
use Rattle.octets.proofs.Part.{part_range, range_length}
use Rattle.octets.proofs.equal_at.Goals as goal

pub returns : goal.returns
returns c =
    let a = c.args in
    c.equal.ensures
    ∙ ap₂ (λ (k : ℕ) (r : List ℕ). agree k r a.b.now)
    (range_length a.t.now a.at (length a.b.now) c.requires) (part_range a.t.now a.at (length a.b.now))
