-- A call on the tables that is not refused passed row 7, and each row below it; what a load that is not refused sets passes row 7.
use mathlib.Core.Bool.{Bool, true, false, false≢true}
use mathlib.Core.Path.{◌≡◌, refl, sym, ◌∙◌}
use lib.Dec.{eqb}
use borrow.Author.Tests.{not-false}
use Rattle.octets.specs.Index.{◌and◌}
use Rattle.octets.specs.Choice.{◌then◌otherwise◌}
use Rattle.octets.proofs.Listed.{all_give}
use Rattle.rules.specs.Relay.{Relay}
use Rattle.rules.specs.Refusals.{tables_ok}
use Rattle.rules.specs.Calls.{TableCall, sets_port, sets_rate, adds, removes, renumbers, notes_path, rule_of, table_refusal}
use Rattle.rules.specs.Saved.{Said, load_refusal}
use Rattle.octets.proofs.Listed.{NoneHolds, refuses, rows_passed}

-- no row's number is 0
rows_refuse : (c : TableCall) (r : Relay) → all_give refuses ((rule_of c).rows r) ≡ true
unfolding rule_of all_give refuses ◌and◌
rows_refuse (sets_port port on mode size) r = refl
rows_refuse (sets_rate target grace penalty) r = refl
rows_refuse (adds address) r = refl
rows_refuse (removes address) r = refl
rows_refuse (renumbers images) r = refl
rows_refuse (notes_path note destination clock) r = refl

pub table_passed : (c : TableCall) (r : Relay) → eqb (table_refusal c r) 0 ≡ true → NoneHolds ((rule_of c).rows r)
unfolding table_refusal all_give refuses ◌and◌
table_passed c r e = (rows_passed _ 0 (rows_refuse c r) e).1

-- row 7 comes first
pub table_ok_lem : (c : TableCall) (r : Relay) → eqb (table_refusal c r) 0 ≡ true → tables_ok r ≡ true
unfolding table_refusal all_give refuses ◌and◌
table_ok_lem c r e = not-false _ (rows_passed _ 0 (rows_refuse c r) e).0

pub loaded_ok : (s : Said) → eqb (load_refusal s) 0 ≡ true → tables_ok s.relay ≡ true
unfolding load_refusal ◌then◌otherwise◌
loaded_ok s e = go (eqb s.refusal 0) refl (tables_ok s.relay) refl e
  where
    go : (b : Bool) → eqb s.refusal 0 ≡ b → (ok : Bool) → tables_ok s.relay ≡ ok
        → eqb (b then (ok then 0 otherwise 24) otherwise s.refusal) 0 ≡ true → tables_ok s.relay ≡ true
    go true q true o h = o
    go true q false o h = absurd (false≢true h)
    go false q ok o h = absurd (false≢true (sym q ∙ h))
