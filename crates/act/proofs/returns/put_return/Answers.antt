use Prim.Native.Nat.{ℕ, ◌<◌}
use mathlib.Core.Path.{sym, subst, ◌∙◌}
use Rattle.octets.specs.Part.{part}
use Rattle.numbers.specs.Numbers.{return_count}
use Rattle.tables.proofs.Whole.{formed}
use Rattle.update.proofs.Steps.{return_next_within}
use Rattle.act.specs.Stored.{return_put}
use borrow.Author.Rules.{rules}
use Rattle.act.proofs.returns.put_return.Goals as goal

pub next_return-place-requires : goal.next_return-place-requires
next_return-place-requires c = (formed _ c.requires.0).size

pub put_return-requires : goal.put_return-requires
put_return-requires c =
    let size = (formed _ c.requires.0).size in
    (search rules, subst (λ (k : ℕ). k < return_count) (sym c.next_return-place.ensures) (return_next_within _ c.requires.0))

pub returns : goal.returns
unfolding return_put part
returns c =
    c.put_return.ensures
    ∙ rw (c.empty_returns.ensures, c.address_at-key.ensures, c.next_return-place.ensures)
