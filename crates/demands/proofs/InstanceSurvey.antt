-- Wish 14's numbers on two recordings: the one of InstanceReplay, with a packet that is refused, an announce that is spread, the same once more, which is
-- dropped, and data that is forwarded; and one without bytes, which is refused.
use Prim.Native.Nat.{ℕ}
use native.Mathlib.Omega.{arith}
use mathlib.Core.List.{List, [], ◌∷◌}
use mathlib.Core.Path.{◌≡◌, refl, ap, ap₂, ◌∙◌}
use Rattle.octets.specs.Choice.{◌then◌otherwise◌, ◌or◌}
use Rattle.octets.specs.Index.{◌and◌}
use Rattle.octets.specs.Listed.{first_of}
use Rattle.rules.specs.Answers.{in_set}
use Rattle.recording.specs.Reader.{length_wrong, file_rows, file_refusal}
use Rattle.recording.proofs.RoundTrip.{file_entries}
use Rattle.surveying.specs.Counts.{Answered, answered_as, answered, is_accepted, sent_by, leaving_by, verdict_test, test_of, accepted_on, packets_on, bytes_in_on, bytes_out_by, dropped_on, dropped_by, sum_over}
use Rattle.surveying.specs.Lines.{port_line, reason_line}
use Rattle.surveying.specs.Survey.{read_of, answers_from, total, port_totals, test_total}
use Rattle.surveying.proofs.RefusedLaws.{refused_none}
use Rattle.demands.proofs.InstanceReplay.{entries, file, recordable, start, answers_by, replayed}

abbrev files : List (List ℕ)
files = file ∷ [] ∷ []

-- what the replay answered
abbrev day : List Answered
day = answered entries (answers_by 4 1)

day_answered : answers_from start file ≡ day
unfolding answers_from
day_answered = ap₂ answered (file_entries entries recordable) replayed.0

none_refused : file_refusal [] ≡ 20
unfolding file_refusal file_rows length_wrong first_of ◌or◌ ◌then◌otherwise◌
none_refused = refl

total_is : (quantity : Answered → ℕ) → total quantity start files ≡ sum_over quantity day
unfolding total read_of sum_over
total_is quantity =
    let first : sum_over quantity (answers_from start file) ≡ sum_over quantity day = ap (sum_over quantity) day_answered in
    let second : sum_over quantity (answers_from start []) ≡ 0 = refused_none quantity start [] (λ e. omega (arith, e, none_refused)) in
    omega (arith, first, second)

-- ---- `port 1 packets 2 in 398 out 39 dropped 1/2`, `port 2 packets 1 in 55 out 215 dropped 0/1`, `reason 2 1`
numbers_are : (a b c d e f g h i : ℕ)
    → sum_over (packets_on 1) day ≡ a → sum_over (bytes_in_on 1) day ≡ b → sum_over (bytes_out_by 1) day ≡ c → sum_over (dropped_on 1) day ≡ d
    → sum_over (packets_on 2) day ≡ e → sum_over (bytes_in_on 2) day ≡ f → sum_over (bytes_out_by 2) day ≡ g → sum_over (dropped_on 2) day ≡ h
    → sum_over (dropped_by 2) day ≡ i
    → (port_totals start files 1 ≡ port_line 1 a b c d) × (port_totals start files 2 ≡ port_line 2 e f g h) × (test_total start files 2 ≡ reason_line 2 i)
unfolding port_totals test_total
numbers_are a b c d e f g h i pa pb pc pd pe pf pg ph pi = (
  λ k.
      port_line 1 ((total_is (packets_on 1) ∙ pa) k) ((total_is (bytes_in_on 1) ∙ pb) k) ((total_is (bytes_out_by 1) ∙ pc) k)
      ((total_is (dropped_on 1) ∙ pd) k),
  λ k.
      port_line 2 ((total_is (packets_on 2) ∙ pe) k) ((total_is (bytes_in_on 2) ∙ pf) k) ((total_is (bytes_out_by 2) ∙ pg) k)
      ((total_is (dropped_on 2) ∙ ph) k),
  ap (reason_line 2) (total_is (dropped_by 2) ∙ pi),
)

pub surveyed : (port_totals start files 1 ≡ port_line 1 2 398 39 1)
    × (port_totals start files 2 ≡ port_line 2 1 55 215 0)
    × (test_total start files 2 ≡ reason_line 2 1)
unfolding answered answered_as is_accepted sent_by leaving_by verdict_test test_of accepted_on packets_on bytes_in_on bytes_out_by dropped_on dropped_by sum_over in_set
    ◌then◌otherwise◌ ◌and◌
surveyed = numbers_are 2 398 39 1 1 55 215 0 1 refl refl refl refl refl refl refl refl refl
