-- The start of a survey, by the saved relay that its settings come from.
use Rattle.std.proofs.Common.{◌≡◌, ℕ, Bool, true, false, eqb, List, length, replicate, sym, refl, ap, ◌∙◌, eq-eqb, ne_eqb, eqb-true}
use borrow.Author.Tests.{eqb-false}
use Rattle.octets.specs.Bytes.{Bytes}
use Rattle.octets.proofs.Choice.{then_true, then_false}
use Rattle.numbers.specs.Refusals.{number_of}
use Rattle.numbers.specs.declared.refusal.Refusal.{Refusal}
use Rattle.numbers.proofs.RefusalNumbers.{some_number}
use Rattle.rules.specs.Relay.{Relay, fresh}
use Rattle.tables.specs.Places.{table_size}
use Rattle.tables.specs.Layout.{relay_of, bytes_of, well_formed}
use Rattle.tables.specs.Called.{Called}
use Rattle.tables.proofs.Whole.{back, ok_bytes}
use Rattle.settings.specs.Calls.{fresh_on}
use Rattle.saved.specs.Load.{load_refusal, held_in, own_in}
use Rattle.saved.proofs.FormatLaws.{said_ok, said_shaped}
use Rattle.surveying.specs.Start.{setting_calls, tables_after, start_of}
use Rattle.surveying.specs.Promise.{counter_count, refusal_count, SurveyOn, start_on}

-- ---- a settings file that is refused, and one that isn't
module _ (file start work counts refusals : List ℕ) where
  pub not_begun : (load_refusal file table_size ≡ 0 → ⊥) → start_on file start work counts refusals
      ≡ record { refusal = load_refusal file table_size; start = start; work = work; counts = counts; refusals = refusals }
  unfolding start_on
  not_begun some = then_false _ _ (ne_eqb (load_refusal file table_size) 0 some)

  pub begun : load_refusal file table_size ≡ 0 → start_on file start work counts refusals
      ≡ record {
        refusal = 0;
        start = start_of (held_in file).0;
        work = bytes_of (held_in file).0;
        counts = replicate counter_count 0;
        refusals = replicate refusal_count 0;
      }
  unfolding start_on
  begun none = then_true _ _ (eq-eqb (load_refusal file table_size) 0 none)

  pub start_refusal : (start_on file start work counts refusals).refusal ≡ load_refusal file table_size
  start_refusal = go (eqb (load_refusal file table_size) 0) refl
    where
      go : (b : Bool) → eqb (load_refusal file table_size) 0 ≡ b → (start_on file start work counts refusals).refusal ≡ load_refusal file table_size
      go true e =
          let none : load_refusal file table_size ≡ 0 = eqb-true (load_refusal file table_size) 0 e in
          ap (λ (s : SurveyOn). s.refusal) (begun none) ∙ sym none
      go false e = ap (λ (s : SurveyOn). s.refusal) (not_begun (eqb-false (load_refusal file table_size) 0 e))

-- ---- what the code makes of one that isn't
module _ (file : List ℕ) (b : Bytes file) (none : load_refusal file table_size ≡ 0) where
  pub held_formed : well_formed (bytes_of (held_in file).0) ≡ true
  held_formed = ok_bytes (held_in file).0 (said_shaped file b none) (said_ok file b none)

  held_back : relay_of (bytes_of (held_in file).0) ≡ (held_in file).0
  held_back = back (held_in file).0 (said_shaped file b none) (said_ok file b none)

  own_held : own_in file ≡ (held_in file).0.own
  unfolding own_in
  own_held = then_true _ _ (eq-eqb (load_refusal file table_size) 0 none)

  pub start_made : (before own u v w : List ℕ) → length before ≡ table_size → own ≡ own_in file → u ≡ (fresh_on before own).tables
      → w ≡ bytes_of (held_in file).0 → v ≡ tables_after (setting_calls (relay_of w)) u → v ≡ start_of (held_in file).0
  unfolding start_of fresh_on
  start_made before own u v w long q1 q2 q3 q4 =
      let made : fresh_on before own ≡ record { refusal = 0; tables = bytes_of (fresh own) } = then_true _ _ (eq-eqb (length before) table_size long) in
      let first : u ≡ bytes_of (fresh (held_in file).0.own) =
      q2 ∙ ap (λ (x : Called). x.tables) made ∙ ap (λ (x : List ℕ). bytes_of (fresh x)) (q1 ∙ own_held) in
      let settings : relay_of w ≡ (held_in file).0 = ap relay_of q3 ∙ held_back in
      q4
      ∙ ap (λ (r : Relay). tables_after (setting_calls r) u) settings
      ∙ ap (tables_after (setting_calls (held_in file).0)) first

-- ---- a refusal's number is none, for those above that don't name the crate of the refusals
pub some_refusal : (r : Refusal) → number_of r ≡ 0 → ⊥
some_refusal r e = some_number r e
