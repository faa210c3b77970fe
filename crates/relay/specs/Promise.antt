-- What the packet call promises, on the bytes that its caller lends. A crate above cites nothing else of this one.
use Rattle.std.specs.Prelude.{◌≡◌, ℕ, Bool, List, Result, Ok, Err}
use Rattle.octets.specs.Choice.{◌then◌otherwise◌}
use Rattle.numbers.specs.declared.refusal.Refusal.{Refusal}
use Rattle.numbers.specs.Refusals.{number_of}
use Rattle.rules.specs.Calls.{Judgement, packet_call}
use Rattle.rules.specs.declared.Answer.{Answer}
use Rattle.rules.specs.declared.Answer.TheVariants.{Refused}
use Rattle.rules.specs.declared.Tally.{Tally}
use Rattle.tables.specs.Layout.{relay_of, bytes_of, well_formed}

-- what a packet call returns, and what it leaves in the tables, the tally and the output
pub record JudgementOn : Type 0 where
  pub answer : Answer
  pub tables : List ℕ
  pub tally : Tally
  pub output : List ℕ

-- what a call returned and left is this
abbrev pub Promises : JudgementOn → Answer → Tally → List ℕ → List ℕ → Type 0
Promises o answer tally tables output = (answer ≡ o.answer) × (tally ≡ o.tally) × (tables ≡ o.tables) × (output ≡ o.output)

-- the rules' judgement, its relay as bytes
unfoldable pub in_bytes : Judgement → JudgementOn
in_bytes j = record { answer = j.answer; tables = bytes_of j.relay; tally = j.tally; output = j.output }

-- tables that are not well formed are refused with 7; well-formed ones hold a relay, and the rules judge the packet. A refusal changes nothing
unfoldable pub packet_on : List ℕ → ℕ → ℕ → Bool → List ℕ → Tally → List ℕ → JudgementOn
packet_on packet port clock signed tables tally output =
    well_formed tables
    then in_bytes (packet_call (record { bytes = packet; port = port; clock = clock; signed = signed }) (relay_of tables) tally output)
    otherwise record { answer = Refused 7; tables = tables; tally = tally; output = output }

-- whether the signature word matters, as the number that tells it: 255 yes, 0 no, or a refusal's
abbrev pub word_told : Result Bool Refusal → ℕ
word_told (Ok matters) = matters then 255 otherwise 0
word_told (Err refusal) = number_of refusal
