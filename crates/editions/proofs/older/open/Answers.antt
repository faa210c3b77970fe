use Prim.Native.Nat.{ℕ, ◌+◌, ◌-◌}
use mathlib.Core.List.{List}
use native.Mathlib.Omega.{arith}
use mathlib.Core.Path.{◌≡◌, ap, ◌∙◌}
use lib.ListN.{length, take, drop}
use Rattle.octets.specs.Part.{part, patch}
use Rattle.editions.proofs.Alike.{opened_written}
use Rattle.editions.proofs.older.open.Goals as goal

pub returns : goal.returns
unfolding part
returns c =
    let a = c.args in
    let pre = c.requires in
    let to = a.to.now in
    let from = a.from.now in
    let all : a.at - 0 ≡ a.at = omega arith in
    c.copy_at-2.ensures
    ∙ ap (λ (r : List ℕ). patch r (a.at + (length to - length from)) (part from a.at (length from - a.at)))
    (c.copy_at.ensures ∙ ap (λ (n : ℕ). patch to 0 (take n (drop 0 from))) all)
    ∙ opened_written to from a.at pre.0 pre.1 pre.2
