-- A refused recording adds nothing but its line; a 17th adds its line, isn't read, and ends the reading.
use Rattle.std.proofs.Common.{◌≡◌, ℕ, ◌+◌, ◌<◌, eqb, List, [], ◌∷◌, ◌++◌, length, sym, ap, ◌∙◌, zero-add, arith, length-append, take_all, lt-ltb}
use mathlib.Core.Path.{fun_ext}
use lib.Seq.{take-append-le}
use Rattle.octets.specs.Choice.{◌then◌otherwise◌}
use Rattle.octets.proofs.Choice.{then_true}
use Rattle.tables.specs.Places.{table_size}
use Rattle.recording.specs.Reader.{file_refusal}
use Rattle.saved.specs.Load.{load_refusal, held_in}
use Rattle.surveying.specs.Counts.{Answered, packets_on, bytes_in_on, bytes_out_by, dropped_on, dropped_by, sum_over}
use Rattle.surveying.specs.Start.{start_of}
use Rattle.surveying.specs.Lines.{settings_line, recording_line, reason_line}
use Rattle.surveying.specs.Survey.{recording_limit, late_number, one_too_many, read_of, answers_from, total, last_line, port_totals, test_total, survey_text, survey}
use Rattle.surveying.proofs.ReplayLaws.{refused_answers}
use Rattle.surveying.proofs.ReadingLaws.{read_few}

-- ---- "A refused recording adds nothing", wherever it stands among those that are read, and whatever is counted
sum_without : (each : List ℕ → ℕ) (xs ys : List (List ℕ)) (f : List ℕ) → each f ≡ 0 → sum_over each (xs ++ (f ∷ ys)) ≡ sum_over each (xs ++ ys)
unfolding sum_over
sum_without each [] ys f none = ap (λ (n : ℕ). n + sum_over each ys) none ∙ zero-add _
sum_without each (x ∷ xs) ys f none = ap (λ (n : ℕ). each x + n) (sum_without each xs ys f none)

module _ (quantity : Answered → ℕ) (start : List ℕ) where
  pub refused_none : (f : List ℕ) → (file_refusal f ≡ 0 → ⊥) → sum_over quantity (answers_from start f) ≡ 0
  unfolding sum_over
  refused_none f some = ap (sum_over quantity) (refused_answers f start some)

  pub refused_adds_nothing : (xs ys : List (List ℕ)) (f : List ℕ) → (file_refusal f ≡ 0 → ⊥) → length xs + length ys < recording_limit
      → total quantity start (xs ++ (f ∷ ys)) ≡ total quantity start (xs ++ ys)
  unfolding total
  refused_adds_nothing xs ys f some few =
      let each : List ℕ → ℕ = λ (g : List ℕ). sum_over quantity (answers_from start g) in
      ap (sum_over each) (read_few (xs ++ (f ∷ ys)) (omega (arith, length-append xs (f ∷ ys))))
      ∙ sum_without each xs ys f (refused_none f some)
      ∙ ap (sum_over each) (sym (read_few (xs ++ ys) (omega (arith, length-append xs ys))))

-- ---- "a 17th recording, told as `recording 17 refused 29`, which ends the reading with the first sixteen reported"
module _ (files : List (List ℕ)) (full : length files ≡ recording_limit) where
  module _ (f : List ℕ) (more : List (List ℕ)) where
    pub late_read : read_of (files ++ (f ∷ more)) ≡ files
    unfolding read_of
    late_read = take-append-le recording_limit files (f ∷ more) (omega (arith, full)) ∙ take_all recording_limit files (omega (arith, full))

    pub late_line : last_line (files ++ (f ∷ more)) ≡ recording_line late_number one_too_many
    unfolding last_line
    late_line = then_true _ _ (lt-ltb recording_limit (length (files ++ (f ∷ more))) (omega (arith, length-append files (f ∷ more), full)))

-- so neither what it holds nor what comes after it is in the text
module _ (fs gs : List (List ℕ)) (read : read_of fs ≡ read_of gs) (last : last_line fs ≡ last_line gs) (start : List ℕ) where
  same_total : (quantity : Answered → ℕ) → total quantity start fs ≡ total quantity start gs
  unfolding total
  same_total quantity = ap (sum_over (λ (f : List ℕ). sum_over quantity (answers_from start f))) read

  same_port : (port : ℕ) → port_totals start fs port ≡ port_totals start gs port
  unfolding port_totals
  same_port port = rw (same_total (packets_on port), same_total (bytes_in_on port), same_total (bytes_out_by port), same_total (dropped_on port))

  same_test : (test : ℕ) → test_total start fs test ≡ test_total start gs test
  unfolding test_total
  same_test test = ap (reason_line test) (same_total (dropped_by test))

  same_text : survey_text start fs ≡ survey_text start gs
  unfolding survey_text
  same_text = rw (read, last, fun_ext same_port, fun_ext same_test)

pub late_unread : (settings f g : List ℕ) (files more others : List (List ℕ)) → length files ≡ recording_limit
    → survey settings (files ++ (f ∷ more)) ≡ survey settings (files ++ (g ∷ others))
unfolding survey
late_unread settings f g files more others full =
    ap (λ (text : List ℕ). eqb (load_refusal settings table_size) 0 then text otherwise settings_line (load_refusal settings table_size))
    (same_text (files ++ (f ∷ more)) (files ++ (g ∷ others)) (late_read files full f more ∙ sym (late_read files full g others))
    (late_line files full f more ∙ sym (late_line files full g others)) (start_of (held_in settings).0))
