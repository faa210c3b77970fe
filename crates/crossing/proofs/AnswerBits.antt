-- The number of every packet call's answer: each field is found at its bits, and where the answer is renamed, the port bits are, and no other.
use Prim.Native.Nat.{ℕ, ◌/◌, ◌<◌}
use native.Mathlib.Omega.{arith}
use mathlib.Core.Bool.{Bool, true, false}
use mathlib.Core.List.{List}
use mathlib.Core.Path.{◌≡◌, refl, sym, ap, ◌∙◌}
use lib.Dec.{eqb, lit<}
use Rattle.octets.specs.Choice.{◌then◌otherwise◌, ◌or◌}
use Rattle.octets.proofs.Choice.{then_true, then_false}
use Rattle.rules.specs.Answers.{reason_numbers, rename_verdict, rename_answer}
use Rattle.rules.specs.declared.Verdict.TheVariants.{Drop, Deliver, Forward, Spread, Kept}
use Rattle.rules.specs.declared.Answer.{Answer}
use Rattle.rules.specs.declared.Answer.TheVariants.{Refused, Judged}
use Rattle.rules.specs.declared.Tally.{Tally}
use Rattle.rules.proofs.Choices.{either}
use Rattle.rules.proofs.AnswerFits.{AnswerFits, answer_fits_lem}
use Rattle.tables.specs.Layout.{relay_of, well_formed}
use Rattle.tables.proofs.Addressed.{addressed_of}
use Rattle.relay.specs.Promise.{JudgementOn, in_bytes, packet_on}
use Rattle.crossing.specs.Answers.{fields_number, drop_number, verdict_number, answer_number, rename_ports, rename_number}
use Rattle.crossing.specs.Packets.{payload_place}
use Rattle.crossing.specs.Bits.{kind_span, detail_span, ports_span, length_span, start_span, clause_span, value_span, value_place, kind_in, detail_in, ports_in, length_in, start_in, clause_in}
use Rattle.crossing.proofs.LosesNothing.{kind_back, detail_back, ports_back, size_back, start_back, drop_back, test_back, clause_back, value_back, place_short}

-- ---- found again at their bits
pub record FieldsAre (number kind detail ports length start : ℕ) : Type 0 where
  pub kind_is : kind_in number ≡ kind
  pub detail_is : detail_in number ≡ detail
  pub ports_are : ports_in number ≡ ports
  pub length_is : length_in number ≡ length
  pub start_is : start_in number ≡ start

-- a drop's
pub record DropIs (number test clause value : ℕ) : Type 0 where
  pub kind_is : kind_in number ≡ 1
  pub test_is : detail_in number ≡ test
  pub clause_is : clause_in number ≡ clause
  pub value_is : number / value_place ≡ value

-- the number of an answer to a packet whose payload starts there
abbrev pub FoundAgain : (start : ℕ) → Answer → Type 0
FoundAgain start (Refused number) = FieldsAre (answer_number start (Refused number)) 0 number 0 0 0
FoundAgain start (Judged (Drop reason)) =
    DropIs (answer_number start (Judged (Drop reason))) (reason_numbers reason).test (reason_numbers reason).clause (reason_numbers reason).value
FoundAgain start (Judged Deliver) = FieldsAre (answer_number start (Judged Deliver)) 2 0 0 0 start
FoundAgain start (Judged (Forward port length)) = FieldsAre (answer_number start (Judged (Forward port length))) 3 0 port length 0
FoundAgain start (Judged (Spread ports length)) = FieldsAre (answer_number start (Judged (Spread ports length))) 4 0 ports length 0
FoundAgain start (Judged Kept) = FieldsAre (answer_number start (Judged Kept)) 5 0 0 0 0

found : (kind detail ports length start : ℕ) → kind < kind_span → detail < detail_span → ports < ports_span → length < length_span → start < start_span
    → FieldsAre (fields_number kind detail ports length start) kind detail ports length start
found kind detail ports length start k d p z s =
    record {
      kind_is = kind_back kind detail ports length start k d p z s;
      detail_is = detail_back kind detail ports length start k d p z s;
      ports_are = ports_back kind detail ports length start k d p z s;
      length_is = size_back kind detail ports length start k d p z s;
      start_is = start_back kind detail ports length start k d p z s;
    }

drop_found : (test clause value : ℕ) → test < detail_span → clause < clause_span → value < value_span → DropIs (drop_number test clause value) test clause value
drop_found test clause value t k x =
    record {
      kind_is = drop_back test clause value t k x;
      test_is = test_back test clause value t k x;
      clause_is = clause_back test clause value t k x;
      value_is = value_back test clause value t k x;
    }

pub found_again : (start : ℕ) → start < start_span → (a : Answer) → AnswerFits a → FoundAgain start a
unfolding answer_number verdict_number
found_again start s (Refused number) fits = found 0 number 0 0 0 (lit< tt) fits (lit< tt) (lit< tt) (lit< tt)
found_again start s (Judged (Drop reason)) fits =
    drop_found (reason_numbers reason).test (reason_numbers reason).clause (reason_numbers reason).value fits.0 fits.1 fits.2
found_again start s (Judged Deliver) fits = found 2 0 0 0 start (lit< tt) (lit< tt) (lit< tt) (lit< tt) s
found_again start s (Judged (Forward port length)) fits =
    found 3 0 port length 0 (lit< tt) (lit< tt) (omega (arith, fits.0)) (omega (arith, fits.1)) (lit< tt)
found_again start s (Judged (Spread ports length)) fits =
    found 4 0 ports length 0 (lit< tt) (lit< tt) fits.0 (omega (arith, fits.1)) (lit< tt)
found_again start s (Judged Kept) fits = found 5 0 0 0 0 (lit< tt) (lit< tt) (lit< tt) (lit< tt) (lit< tt)

-- ---- renamed
module _ (m : List ℕ) where
  bits_renamed : (number kind detail ports length start : ℕ) → FieldsAre number kind detail ports length start → (eqb kind 3 or eqb kind 4) ≡ true
      → rename_number m number ≡ fields_number kind detail (rename_ports m kind ports) length start
  unfolding rename_number
  bits_renamed number kind detail ports length start f h =
      then_true _ number (ap (λ (k : ℕ). eqb k 3 or eqb k 4) f.kind_is ∙ h)
      ∙ rw (f.kind_is, f.detail_is, f.ports_are, f.length_is, f.start_is) refl

  -- without ports
  number_stays : (number kind : ℕ) → kind_in number ≡ kind → (eqb kind 3 or eqb kind 4) ≡ false → rename_number m number ≡ number
  unfolding rename_number
  number_stays number kind e h = then_false _ number (ap (λ (k : ℕ). eqb k 3 or eqb k 4) e ∙ h)

  module _ (start : ℕ) (s : start < start_span) where
    answer_renamed : (a : Answer) → AnswerFits a → answer_number start (rename_answer m a) ≡ rename_number m (answer_number start a)
    unfolding answer_number verdict_number rename_answer rename_verdict rename_ports ◌then◌otherwise◌ ◌or◌
    answer_renamed (Refused number) fits = sym (number_stays _ 0 (found_again start s (Refused number) fits).kind_is refl)
    answer_renamed (Judged (Drop reason)) fits = sym (number_stays _ 1 (found_again start s (Judged (Drop reason)) fits).kind_is refl)
    answer_renamed (Judged Deliver) fits = sym (number_stays _ 2 (found_again start s (Judged Deliver) fits).kind_is refl)
    answer_renamed (Judged (Forward port length)) fits =
        sym (bits_renamed _ 3 0 port length 0 (found_again start s (Judged (Forward port length)) fits) refl)
    answer_renamed (Judged (Spread ports length)) fits =
        sym (bits_renamed _ 4 0 ports length 0 (found_again start s (Judged (Spread ports length)) fits) refl)
    answer_renamed (Judged Kept) fits = sym (number_stays _ 5 (found_again start s (Judged Kept) fits).kind_is refl)

-- ---- of every packet call, on any bytes
module _ (packet : List ℕ) (port clock : ℕ) (signed : Bool) (tables : List ℕ) (tally : Tally) (output : List ℕ) where
  abbrev answer : Answer
  answer = (packet_on packet port clock signed tables tally output).answer

  pub answer_in_range : AnswerFits answer
  unfolding packet_on in_bytes
  answer_in_range =
      either (λ (o : JudgementOn). AnswerFits o.answer) (well_formed tables)
      (λ h. answer_fits_lem _ (relay_of tables) (addressed_of tables h) tally output)
      (λ _. lit< tt)

  abbrev start : ℕ
  start = payload_place packet

  pub start_in_range : start < start_span
  start_in_range = omega (arith, place_short packet)

  -- what a host reads from the number is the answer
  pub fields_found : FoundAgain start answer
  fields_found = found_again start start_in_range answer answer_in_range

  -- demand 3 of the number: a renamed answer's number is the number with its port bits renamed
  pub number_renamed : (m : List ℕ) → answer_number start (rename_answer m answer) ≡ rename_number m (answer_number start answer)
  number_renamed m = answer_renamed m start start_in_range answer answer_in_range
