use Rattle.std.proofs.lemmas.Result.{err_from_is_err_and}
use Rattle.numbers.proofs.RefusalNumbers.{some_number}
use Rattle.saved.proofs.LoadLaws.{taken, tally_held, load_done, load_refused}
use Rattle.saved.specs.Load.{LoadedOn}
use lib.ListN.{length}
use mathlib.Core.Path.{sym, ap, ◌∙◌}
use native.Mathlib.Omega.{arith}
use borrow.Author.Rules.{rules}
use Rattle.saved.proofs.loading.load.Goals as goal

pub returns-in_err-edition : goal.returns-in_err-edition
returns-in_err-edition c tally =
    let a = c.args in
    let p = err_from_is_err_and c.from_residual.result c.from_residual.ensures.1 in
    let refusal = c.in_err-edition.ensures in
    let refused = load_refused a.file.now a.tables.now tally (λ q. some_number _ (refusal ∙ q)) in
    rw (p.1, p.2) (
      refusal ∙ sym (ap (λ (x : LoadedOn). x.refusal) refused),
      sym (ap (λ (x : LoadedOn). x.tables) refused),
      sym (ap (λ (x : LoadedOn). x.tally) refused),
    )

pub overflow_sub-file : goal.overflow_sub-file
overflow_sub-file c =
    let a = c.args in
    let long = (taken a.file.now (length a.tables.now) c.in_ok-edition.ensures.0).long in
    search rules

pub tally_at-requires : goal.tally_at-requires
tally_at-requires c =
    let a = c.args in
    omega (arith, (taken a.file.now (length a.tables.now) c.in_ok-edition.ensures.0).long)

pub returns : goal.returns
returns c tally =
    let a = c.args in
    let f = a.file.now in
    let t = taken f (length a.tables.now) c.in_ok-edition.ensures.0 in
    let done = load_done f a.tables.now tally c.in_ok-edition.ensures.0 in (
      sym (ap (λ (x : LoadedOn). x.refusal) done),
      c.write_held.ensures ∙ sym (ap (λ (x : LoadedOn). x.tables) done),
      c.tally_at.ensures ∙ tally_held f _ t _ (omega (arith, t.long)) ∙ sym (ap (λ (x : LoadedOn). x.tally) done),
    )
