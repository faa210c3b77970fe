use Rattle.opinion.proofs.Written.{fresh_log}
use Rattle.opinion.specs.Calls.{IsFresh}
use Rattle.opinion_log.specs.Log.{count_at}
use Rattle.octets.specs.Part.{patch}
use lib.ListN.{length}
use mathlib.Core.Path.{◌≡◌, sym, ap, subst, ◌∙◌}
use mathlib.Core.List.{List, [], ◌∷◌}
use Prim.Native.Nat.{ℕ}
use borrow.Author.Rules.{rules}
use Rattle.numbers.specs.Numbers.{address_width}
use Rattle.opinion.proofs.writing.put_fresh.Goals as goal

pub returns : goal.returns
returns c =
    let wide : length c.args.own ≡ address_width = search rules in
    subst (IsFresh c.args.own) (sym (c.set_at.ensures
    ∙ ap (λ (t : List ℕ). patch t count_at (0 ∷ [])) c.copy_at.ensures)) (fresh_log c.args.log.now c.args.own c.told-log wide)
