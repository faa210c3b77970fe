-- Document 02, Wish 14: the text of a survey, by the settings file and any list of recordings.
use Rattle.std.specs.Prelude.{ℕ, ◌+◌, List, [], ◌∷◌, ◌++◌, length, take, ◌==◌, nat_lt}
use Rattle.octets.specs.Choice.{◌then◌otherwise◌}
use Rattle.octets.specs.Index.{list_of}
use Rattle.octets.specs.Part.{joined}
use Rattle.numbers.specs.Numbers.{port_count}
use Rattle.rules.specs.Calls.{new_tally}
use Rattle.tables.specs.Places.{table_size}
use Rattle.recording.specs.Reader.{file_refusal, entries_of}
use Rattle.replaying.specs.Promise.{replay_on}
use Rattle.saved.specs.Load.{load_refusal, held_in}
use Rattle.surveying.specs.Counts.{Answered, answered, packets_on, bytes_in_on, bytes_out_by, dropped_on, dropped_by, sum_over, test_order}
use Rattle.surveying.specs.Start.{start_of}
use Rattle.surveying.specs.Lines.{survey_line, settings_line, recording_line, port_line, reason_line}

-- "reads up to 16 recordings one after another"
abbrev pub recording_limit : ℕ
recording_limit = 16

-- the number of the first that isn't read: 17
abbrev pub late_number : ℕ
late_number = recording_limit + 1

-- "Refusals: 29, a 17th recording, told as `recording 17 refused 29`"
abbrev pub one_too_many : ℕ
one_too_many = 29

unfoldable pub read_of : List (List ℕ) → List (List ℕ)
read_of files = take recording_limit files

-- ---- totals
-- the answers of a recording, replayed over the tables of the start with tally 0. "A refused recording adds nothing": it has no answers
unfoldable pub answers_from : List ℕ → List ℕ → List Answered
answers_from start file = answered (entries_of file) (replay_on file start new_tally).answers

-- a quantity over all answers of all recordings that are read
unfoldable pub total : (Answered → ℕ) → List ℕ → List (List ℕ) → ℕ
total quantity start files = sum_over (λ (file : List ℕ). sum_over quantity (answers_from start file)) (read_of files)

-- ---- the lines
-- of the recordings that are refused, the first counted so
unfoldable pub refused_lines : ℕ → List (List ℕ) → List ℕ
refused_lines number [] = []
refused_lines number (file ∷ files) =
    (file_refusal file == 0 then [] otherwise recording_line number (file_refusal file)) ++ refused_lines (number + 1) files

-- of a 17th, "which ends the reading with the first sixteen reported"
unfoldable pub last_line : List (List ℕ) → List ℕ
last_line files = nat_lt recording_limit (length files) then recording_line late_number one_too_many otherwise []

unfoldable pub port_totals : List ℕ → List (List ℕ) → ℕ → List ℕ
port_totals start files port =
    port_line port
    (total (packets_on port) start files)
    (total (bytes_in_on port) start files)
    (total (bytes_out_by port) start files)
    (total (dropped_on port) start files)

unfoldable pub test_total : List ℕ → List (List ℕ) → ℕ → List ℕ
test_total start files test = reason_line test (total (dropped_by test) start files)

-- ---- the text
unfoldable pub survey_text : List ℕ → List (List ℕ) → List ℕ
survey_text start files =
    survey_line ++
    (refused_lines 1 (read_of files) ++
    (last_line files ++
    (joined (port_totals start files) (list_of (λ port. port) port_count) ++
    joined (test_total start files) test_order)))

-- a refused settings file prints its line alone
unfoldable pub survey : List ℕ → List (List ℕ) → List ℕ
survey settings files =
    (load_refusal settings table_size == 0)
    then survey_text (start_of (held_in settings).0) files
    otherwise settings_line (load_refusal settings table_size)
