-- For the contracts of private helpers: no reader has to believe these.
use Rattle.std.specs.Prelude.{ℕ, ◌+◌, ◌*◌, not, List, [], ◌∷◌, ◌++◌, ltb}
use Rattle.octets.specs.Index.{list_of}
use Rattle.octets.specs.Choice.{◌or◌}
use Rattle.octets.specs.Listed.{Test, ◌gives◌otherwise◌}
use Rattle.octets.specs.Part.{part, joined}
use Rattle.octets.specs.BigEndian.{big_endian}
use Rattle.recording.specs.Shape.{count_width, offset_width, length_width}
use Rattle.recording.specs.Format.{recording_kind, recording_edition, longest_file, head_width}
use Rattle.recording.specs.Reader.{places_wrong, words_wrong}
use Rattle.recording.specs.Writer.{given_length_at, given_width, given_head_at, given_start, given_words_wrong, given_clocks_wrong, add_up, file_length}

-- the reader's rows 22 and 23, and the writer's 23 and 5, and 20 and 25, by themselves
abbrev pub contents_rows : List ℕ → List (Test ℕ)
contents_rows f = places_wrong f gives 22 otherwise words_wrong f gives 23 otherwise []

abbrev pub head_rows : List ℕ → List (Test ℕ)
head_rows g = given_words_wrong g gives 23 otherwise given_clocks_wrong g gives 5 otherwise []

abbrev pub length_rows : List ℕ → List ℕ → ℕ → List (Test ℕ)
length_rows g bodies room =
    not (add_up g bodies) or ltb longest_file (file_length g bodies) gives 20 otherwise
    ltb room (file_length g bodies) gives 25 otherwise []

-- what the writer puts at the start of the file: kind, edition and count
abbrev pub start_bytes : ℕ → List ℕ
start_bytes n = recording_kind ∷ recording_edition ∷ big_endian count_width n

-- what the writer puts into the contents for entry i, whose body it puts at `offset`: the clock's low five bytes, port and signature word as given,
-- the offset, and the length as given
unfoldable pub copied_item : List ℕ → ℕ → ℕ → List ℕ
copied_item g offset i =
    part g (given_width * i + given_head_at) head_width ++ (big_endian offset_width offset ++ part g (given_width * i + given_length_at) length_width)

-- the same for the first n entries, the first body at `at`
unfoldable pub copied_items : List ℕ → ℕ → ℕ → List ℕ
copied_items g at n = joined (λ i. copied_item g (at + given_start g i) i) (list_of (λ i. i) n)
