-- How an entry of a recording, a writing of one, and a replay's line cross to hosts.
use Rattle.std.specs.Prelude.{ℕ, ◌+◌, ◌*◌, List, [], ◌∷◌, ◌≡◌}
use Rattle.octets.specs.Choice.{◌then◌otherwise◌}
use Rattle.recording.specs.Reader.{Fields, is_there, fields_of}
use Rattle.recording.specs.Writer.{Writing}
use Rattle.numbers.specs.Refusals.{Written}
use Rattle.text.specs.Text.{text_of}
use Rattle.replaying.specs.Promise.{StepOn}
use Rattle.crossing.specs.Tallies.{tally_numbers}
use Rattle.crossing.specs.Answers.{answer_number}
use Rattle.crossing.specs.Bits.{refusal_span}

-- an entry in five numbers: clock, port, signature word, and where its body starts and how long it is
unfoldable pub entry_numbers : Fields → List ℕ
entry_numbers e = e.clock ∷ e.port ∷ e.word ∷ e.start ∷ e.length ∷ []

-- 22 where the entry isn't there; the caller's numbers then stay
unfoldable pub entry_refusal : List ℕ → ℕ → ℕ
entry_refusal file i = is_there file i then 0 otherwise 22

unfoldable pub entry_after : List ℕ → ℕ → List ℕ → List ℕ
entry_after file i old = is_there file i then entry_numbers (fields_of file i) otherwise old

-- a writing as one number: the refusal or 0 in the low 16 bits, the file's length in those above
unfoldable pub recorded_number : Written → ℕ
recorded_number w = w.length * refusal_span + w.refusal

-- what a writing returned and left is this
abbrev pub Records : Writing → ℕ → List ℕ → Type 0
Records w number room = (number ≡ recorded_number w.answer) × (room ≡ w.room)

-- the caller's 160 bytes after a step: the entry's line, zeros behind it, or what stood there where the entry isn't there
unfoldable pub line_after : StepOn → List ℕ → List ℕ
line_after s old = s.there then (text_of s.line).bytes otherwise old

-- what a step returned and left is this, with the answer as its number, the entry's payload starting there
abbrev pub Replays : StepOn → (start : ℕ) → List ℕ → (number : ℕ) → List ℕ → List ℕ → List ℕ → Type 0
Replays s start old number tally tables line =
    (number ≡ answer_number start s.answer) × (tally ≡ tally_numbers s.tally) × (tables ≡ s.tables) × (line ≡ line_after s old)
