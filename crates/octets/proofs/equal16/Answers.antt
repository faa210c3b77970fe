use Prim.Native.Nat.{ℕ}
use mathlib.Core.Path.{◌≡◌, ap, ◌∙◌}
use lib.ListN.{length}
use Rattle.octets.specs.Index.{agree}
use borrow.Author.Rules.{rules}
use Rattle.octets.proofs.equal16.Goals as goal

pub returns : goal.returns
returns c =
    let a = c.args in
    let wide : length a.a ≡ 16 = search rules in
    c.equal.ensures ∙ ap (λ (k : ℕ). agree k a.a a.b) wide
