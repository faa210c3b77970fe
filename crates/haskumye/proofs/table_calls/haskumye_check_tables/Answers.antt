use Rattle.std.proofs.Common.{◌≡◌, ◌∙◌, List, ℕ, true, false, refl, Result, Ok, Err}
use Rattle.std.specs.Prelude.{MatchResult}
use Rattle.octets.specs.Choice.{◌then◌otherwise◌}
use Rattle.numbers.specs.Refusals.{refused_number}
use Rattle.numbers.specs.declared.refusal.Refusal.{Refusal}
use Rattle.numbers.specs.declared.refusal.Refusal.TheVariants.{Tables}
use Rattle.tables.specs.Layout.{well_formed}
use Rattle.haskumye.specs.Tables.{tables_refusal}
use Rattle.haskumye.proofs.table_calls.haskumye_check_tables.Goals as goal

checked : {A : Type 0} (t : List ℕ) (r : Result A Refusal)
    → MatchResult r (λ _. well_formed t ≡ true) (λ refusal. (refusal ≡ Tables) × (well_formed t ≡ false)) → refused_number r ≡ tables_refusal t
unfolding tables_refusal ◌then◌otherwise◌
checked t (Ok x) h = rw h refl
checked t (Err refusal) h = rw (h.0, h.1) refl

pub returns : goal.returns
returns c = c.refused_number.ensures ∙ checked c.args.tables.now c.check_tables.result c.check_tables.ensures
