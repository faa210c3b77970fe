-- How an answer lies in one number, and what a host's packet call promises.
use Rattle.std.specs.Prelude.{ℕ, ◌+◌, ◌*◌, ◌%◌, List, ◌≡◌, eqb}
use Rattle.octets.specs.Choice.{◌then◌otherwise◌, ◌or◌}
use Rattle.rules.specs.Renumbering.{image}
use Rattle.rules.specs.Answers.{reason_numbers, verdict_kind, image_set}
use Rattle.rules.specs.declared.Verdict.{Verdict}
use Rattle.rules.specs.declared.Verdict.TheVariants.{Drop, Deliver, Forward, Spread, Kept}
use Rattle.rules.specs.declared.Answer.{Answer}
use Rattle.rules.specs.declared.Answer.TheVariants.{Refused, Judged}
use Rattle.rules.specs.declared.Tally.{Tally}
use Rattle.relay.specs.Promise.{JudgementOn}
use Rattle.crossing.specs.Bits.{detail_place, ports_place, length_span, length_place, start_span, start_place, clause_place, value_span, value_place, kind_in, detail_in, ports_in, length_in, start_in}

-- the kind in bits 0 to 7, a refusal's number in 8 to 15, a port or a port set in 16 to 31, the length in 32 to 47, where a delivered payload
-- starts in 48 to 63: Bits.antt
unfoldable pub fields_number : (kind detail ports length start : ℕ) → ℕ
fields_number kind detail ports length start =
    kind + detail * detail_place + ports * ports_place + length % length_span * length_place + start % start_span * start_place

-- a drop: the kind in bits 0 to 7, the test in 8 to 15, its clause or case in 16 to 19, the value in 20 to 60
unfoldable pub drop_number : (test clause value : ℕ) → ℕ
drop_number test clause value = 1 + test * detail_place + clause * clause_place + value % value_span * value_place

-- of a packet whose payload starts there
unfoldable pub verdict_number : (start : ℕ) → Verdict → ℕ
verdict_number start (Drop reason) = drop_number (reason_numbers reason).test (reason_numbers reason).clause (reason_numbers reason).value
verdict_number start Deliver = fields_number (verdict_kind Deliver) 0 0 0 start
verdict_number start (Forward port length) = fields_number (verdict_kind (Forward port length)) 0 port length 0
verdict_number start (Spread ports length) = fields_number (verdict_kind (Spread ports length)) 0 ports length 0
verdict_number start Kept = fields_number (verdict_kind Kept) 0 0 0 0

unfoldable pub answer_number : (start : ℕ) → Answer → ℕ
answer_number start (Refused number) = fields_number 0 number 0 0 0
answer_number start (Judged verdict) = verdict_number start verdict

-- what a host's packet call returned and left is this, with the answer as its number, the packet's payload starting there
abbrev pub Answers : JudgementOn → (start number : ℕ) → Tally → List ℕ → List ℕ → Type 0
Answers o start number tally tables output = (number ≡ answer_number start o.answer) × (tally ≡ o.tally) × (tables ≡ o.tables) × (output ≡ o.output)

-- ---- the number with its ports renamed: bits 16 to 31 hold a port's image, or a set's images; all other bits stay
unfoldable pub rename_ports : List ℕ → (kind ports : ℕ) → ℕ
rename_ports m kind ports =
    eqb kind 3 then image m ports otherwise
    eqb kind 4 then image_set m ports otherwise ports

-- a number of another kind holds no port there
unfoldable pub rename_number : List ℕ → ℕ → ℕ
rename_number m number =
    eqb (kind_in number) 3 or eqb (kind_in number) 4
    then fields_number (kind_in number) (detail_in number) (rename_ports m (kind_in number) (ports_in number)) (length_in number) (start_in number)
    otherwise number
