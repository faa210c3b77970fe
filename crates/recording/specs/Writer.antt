-- Document 02, Wish 1: writing a recording. The writer is given the entries as bytes of one width, clock (8), port (1), signature word (1), length (2),
-- big-endian too, and the bodies one after another in a second slice.
use Rattle.std.specs.Prelude.{ℕ, ◌+◌, ◌-◌, ◌*◌, ◌/◌, ◌%◌, Bool, not, List, [], ◌∷◌, ◌++◌, eqb, ltb, length, get_or}
use Rattle.octets.specs.Index.{◌and◌, all_below, list_of}
use Rattle.octets.specs.Choice.{◌or◌, ◌then◌otherwise◌}
use Rattle.octets.specs.Listed.{Test, ◌gives◌otherwise◌, first_of}
use Rattle.octets.specs.Part.{part, patch, joined}
use Rattle.octets.specs.BigEndian.{number, big_endian}
use Rattle.recording.specs.Shape.{length_width, entry_place, sum_below}
use Rattle.recording.specs.Format.{Entry, longest_file, clock_width, head_width, recorded_clock_limit, entry_body, file_of}
use Rattle.numbers.specs.Refusals.{Written}

abbrev pub given_clock_width : ℕ
given_clock_width = 8

abbrev pub given_port_at : ℕ
given_port_at = given_clock_width

abbrev pub given_word_at : ℕ
given_word_at = given_port_at + 1

abbrev pub given_length_at : ℕ
given_length_at = given_word_at + 1

abbrev pub given_width : ℕ
given_width = given_length_at + length_width

-- where the bytes start that are an entry's head in the file: the clock's low five, port and signature word
abbrev pub given_head_at : ℕ
given_head_at = given_clock_width - clock_width

-- how many whole entries are given
unfoldable pub given_count : List ℕ → ℕ
given_count g = length g / given_width

unfoldable pub given_clock : List ℕ → ℕ → ℕ
given_clock g i = number (part g (given_width * i) given_clock_width)

unfoldable pub given_port : List ℕ → ℕ → ℕ
given_port g i = get_or g (given_width * i + given_port_at) 0

unfoldable pub given_word : List ℕ → ℕ → ℕ
given_word g i = get_or g (given_width * i + given_word_at) 0

unfoldable pub given_length : List ℕ → ℕ → ℕ
given_length g i = number (part g (given_width * i + given_length_at) length_width)

-- where body i starts among the bodies; at the count, where the last ends
unfoldable pub given_start : List ℕ → ℕ → ℕ
given_start g i = sum_below (given_length g) i

unfoldable pub given_entry : List ℕ → List ℕ → ℕ → Entry
given_entry g bodies i =
    record {
      clock = given_clock g i;
      port = given_port g i;
      word = given_word g i;
      body = part bodies (given_start g i) (given_length g i);
    }

unfoldable pub given_entries : List ℕ → List ℕ → List Entry
given_entries g bodies = list_of (given_entry g bodies) (given_count g)

-- ---- "The writer: 23, 5 for a clock past five bytes, 20, then 25 for too little room."
unfoldable pub given_words_wrong : List ℕ → Bool
given_words_wrong g = not (all_below (λ i. ltb (given_word g i) 2) (given_count g))

unfoldable pub given_clocks_wrong : List ℕ → Bool
given_clocks_wrong g = not (all_below (λ i. ltb (given_clock g i) recorded_clock_limit) (given_count g))

-- no entry is cut, and the bodies are as long as the lengths' sum
unfoldable pub add_up : List ℕ → List ℕ → Bool
add_up g bodies = eqb (length g % given_width) 0 and eqb (given_start g (given_count g)) (length bodies)

unfoldable pub file_length : List ℕ → List ℕ → ℕ
file_length g bodies = entry_place head_width (given_count g) + length bodies

unfoldable pub writing_rows : List ℕ → List ℕ → ℕ → List (Test ℕ)
writing_rows g bodies room =
    given_words_wrong g gives 23 otherwise
    given_clocks_wrong g gives 5 otherwise
    not (add_up g bodies) or ltb longest_file (file_length g bodies) gives 20 otherwise
    ltb room (file_length g bodies) gives 25 otherwise
    []

unfoldable pub writing_refusal : List ℕ → List ℕ → ℕ → ℕ
writing_refusal g bodies room = first_of (writing_rows g bodies room) 0

-- the answer, and the room after it: a refusal leaves it as it was, and room past the file stays
pub record Writing : Type 0 where
  pub answer : Written
  pub room : List ℕ

unfoldable pub writing : List ℕ → List ℕ → List ℕ → Writing
writing g bodies room =
    eqb (writing_refusal g bodies (length room)) 0
    then record { answer = record { refusal = 0; length = file_length g bodies }; room = patch room 0 (file_of (given_entries g bodies)) }
    otherwise record { answer = record { refusal = writing_refusal g bodies (length room); length = 0 }; room = room }

-- ---- a list of entries as the writer is given it
unfoldable pub given_item : Entry → List ℕ
given_item e = big_endian given_clock_width e.clock ++ (e.port ∷ e.word ∷ big_endian length_width (length e.body))

unfoldable pub given_of : List Entry → List ℕ
given_of es = joined given_item es

unfoldable pub bodies_of : List Entry → List ℕ
bodies_of es = joined entry_body es
