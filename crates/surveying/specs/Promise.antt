-- What the calls of a survey return, and what they leave in what their caller lends: the tables of the start, tables to replay over, counters of 64 bits, and
-- the recordings' refusals. After a start and any recordings, the lines are the survey's text (SurveyLaws, survey_printed).
use Rattle.std.specs.Prelude.{◌≡◌, ℕ, ◌+◌, ◌-◌, ◌*◌, ◌%◌, ◌^◌, List, [], ◌∷◌, replicate, ◌==◌, nat_le, nat_lt, slice_index, slice_set}
use Rattle.octets.specs.Choice.{◌then◌otherwise◌}
use Rattle.octets.specs.Index.{list_of}
use Rattle.octets.specs.Part.{joined}
use Rattle.numbers.specs.Numbers.{port_count}
use Rattle.rules.specs.Calls.{new_tally}
use Rattle.tables.specs.Places.{table_size}
use Rattle.tables.specs.Layout.{bytes_of}
use Rattle.recording.specs.Reader.{file_refusal}
use Rattle.replaying.specs.Promise.{replay_on}
use Rattle.saved.specs.Load.{load_refusal, held_in}
use Rattle.surveying.specs.Counts.{Answered, packets_on, bytes_in_on, bytes_out_by, dropped_on, dropped_by, test_order, test_count}
use Rattle.surveying.specs.Start.{start_of}
use Rattle.surveying.specs.Lines.{survey_line, recording_line, port_line, reason_line}
use Rattle.surveying.specs.Survey.{recording_limit, late_number, one_too_many, answers_from}

-- ---- the counters: packets, bytes in, bytes out and packets dropped, of sixteen ports each; then the drops by each test
abbrev pub bytes_in_at : ℕ
bytes_in_at = port_count

abbrev pub bytes_out_at : ℕ
bytes_out_at = 2 * port_count

abbrev pub dropped_at : ℕ
dropped_at = 3 * port_count

abbrev pub tests_at : ℕ
tests_at = 4 * port_count

abbrev pub counter_count : ℕ
counter_count = tests_at + test_count

-- what counter k counts
unfoldable pub counted_at : ℕ → Answered → ℕ
counted_at k x =
    nat_lt k bytes_in_at then packets_on k x otherwise
    nat_lt k bytes_out_at then bytes_in_on (k - bytes_in_at) x otherwise
    nat_lt k dropped_at then bytes_out_by (k - bytes_out_at) x otherwise
    nat_lt k tests_at then dropped_on (k - dropped_at) x otherwise
    dropped_by (slice_index test_order (k - tests_at)) x

-- the counters with one answered entry more, modulo 2^64: any lent counters have an answer. Those of a survey never reach 2^64 (CountLaws, counts_exact)
unfoldable pub add_one : List ℕ → Answered → List ℕ
add_one counts x = list_of (λ k. (slice_index counts k + counted_at k x) % 2 ^ 64) counter_count

unfoldable pub add_all : List ℕ → List Answered → List ℕ
add_all counts [] = counts
add_all counts (x ∷ xs) = add_all (add_one counts x) xs

-- ---- the recordings' refusals: place 0 has the number of recordings read, place n the refusal of recording n, or 0. Place 17 is for one too many
abbrev pub refusal_count : ℕ
refusal_count = 1 + late_number

unfoldable pub noted : List ℕ → ℕ → List ℕ
noted refusals refusal =
    let number : ℕ = slice_index refusals 0 + 1 in
    slice_set (slice_set refusals number refusal) 0 number

-- ---- the calls
pub record SurveyOn : Type 0 where
  pub refusal : ℕ
  pub start : List ℕ
  pub work : List ℕ
  pub counts : List ℕ
  pub refusals : List ℕ

-- a start by a settings file: 20, 21, 22, 24 as a load gives them, and then all stays
unfoldable pub start_on : List ℕ → List ℕ → List ℕ → List ℕ → List ℕ → SurveyOn
start_on file start work counts refusals =
    (load_refusal file table_size == 0)
    then
    record {
      refusal = 0;
      start = start_of (held_in file).0;
      work = bytes_of (held_in file).0;
      counts = replicate counter_count 0;
      refusals = replicate refusal_count 0;
    }
    otherwise record { refusal = load_refusal file table_size; start = start; work = work; counts = counts; refusals = refusals }

-- a recording that is read: 20, 21, 22, 23, and then all but the refusals stays
unfoldable pub read_on : List ℕ → List ℕ → List ℕ → List ℕ → List ℕ → SurveyOn
read_on file start work counts refusals =
    record {
      refusal = file_refusal file;
      start = start;
      work = file_refusal file == 0 then (replay_on file start new_tally).tables otherwise work;
      counts = add_all counts (answers_from start file);
      refusals = noted refusals (file_refusal file);
    }

-- a recording: 29 for a 17th, which is not read
unfoldable pub recording_on : List ℕ → List ℕ → List ℕ → List ℕ → List ℕ → SurveyOn
recording_on file start work counts refusals =
    nat_le recording_limit (slice_index refusals 0)
    then
    record {
      refusal = one_too_many;
      start = start;
      work = work;
      counts = counts;
      refusals = slice_set refusals late_number one_too_many;
    }
    otherwise read_on file start work counts refusals

-- what a call returned and left is this
abbrev pub Surveys : SurveyOn → ℕ → List ℕ → List ℕ → List ℕ → List ℕ → Type 0
Surveys s refusal start work counts refusals =
    (refusal ≡ s.refusal) × (start ≡ s.start) × (work ≡ s.work) × (counts ≡ s.counts) × (refusals ≡ s.refusals)

-- recordings one after another, each on what the one before left
unfoldable pub recordings_on : List (List ℕ) → SurveyOn → SurveyOn
recordings_on [] s = s
recordings_on (file ∷ files) s = recordings_on files (recording_on file s.start s.work s.counts s.refusals)

-- ---- the lines by their places: `survey`, the seventeen recordings, of which one that wasn't refused has no line, the ports, the tests
abbrev pub ports_from : ℕ
ports_from = 1 + late_number

abbrev pub tests_from : ℕ
tests_from = ports_from + port_count

abbrev pub line_count : ℕ
line_count = tests_from + test_count

unfoldable pub recording_at : List ℕ → ℕ → List ℕ
recording_at refusals number =
    (slice_index refusals number == 0) then [] otherwise recording_line number (slice_index refusals number)

unfoldable pub port_at : List ℕ → ℕ → List ℕ
port_at counts port =
    port_line port
    (slice_index counts port)
    (slice_index counts (bytes_in_at + port))
    (slice_index counts (bytes_out_at + port))
    (slice_index counts (dropped_at + port))

unfoldable pub test_at : List ℕ → ℕ → List ℕ
test_at counts place = reason_line (slice_index test_order place) (slice_index counts (tests_at + place))

-- past the last there is no line
unfoldable pub line_at : List ℕ → List ℕ → ℕ → List ℕ
line_at counts refusals i =
    (i == 0) then survey_line otherwise
    nat_lt i ports_from then recording_at refusals i otherwise
    nat_lt i tests_from then port_at counts (i - ports_from) otherwise
    nat_lt i line_count then test_at counts (i - tests_from) otherwise
    []

-- all lines
unfoldable pub text_on : SurveyOn → List ℕ
text_on s = joined (line_at s.counts s.refusals) (list_of (λ i. i) line_count)
