-- Document 02, Wish 1: reading a recording, for any bytes of any length.
use Rattle.std.specs.Prelude.{ℕ, ◌+◌, Bool, true, false, not, List, [], eqb, ltb, leb, length, get_or, Option, Some, None}
use Rattle.octets.specs.Index.{◌and◌, all_below, list_of}
use Rattle.octets.specs.Choice.{◌or◌, ◌then◌otherwise◌}
use Rattle.octets.specs.Listed.{Test, ◌gives◌otherwise◌, first_of}
use Rattle.octets.specs.Part.{part}
use Rattle.octets.specs.BigEndian.{number}
use Rattle.recording.specs.Shape.{contents_start, entry_place, kind_of, edition_of, count_of, offset_of, length_of, offsets_right, end_right}
use Rattle.recording.specs.Format.{Entry, recording_kind, recording_edition, longest_file, clock_width, port_at, word_at, head_width}
use Rattle.recording.specs.declared.EntryHead.{EntryHead}

-- ---- the head of entry i
unfoldable pub clock_of : List ℕ → ℕ → ℕ
clock_of f i = number (part f (entry_place head_width i) clock_width)

unfoldable pub port_of : List ℕ → ℕ → ℕ
port_of f i = get_or f (entry_place head_width i + port_at) 0

unfoldable pub word_of : List ℕ → ℕ → ℕ
word_of f i = get_or f (entry_place head_width i + word_at) 0

-- ---- "Refusals, in order: 20 file too long or shorter than its contents, 21 kind or edition, 22 offset, length or file end that breaks the rule,
-- 23 signature word"
unfoldable pub length_wrong : List ℕ → Bool
length_wrong f =
    ltb longest_file (length f) or ltb (length f) contents_start or ltb (length f) (entry_place head_width (count_of f))

unfoldable pub kind_wrong : List ℕ → Bool
kind_wrong f = not (eqb (kind_of f) recording_kind and eqb (edition_of f) recording_edition)

unfoldable pub places_wrong : List ℕ → Bool
places_wrong f = not (offsets_right head_width f and end_right head_width f)

unfoldable pub words_wrong : List ℕ → Bool
words_wrong f = not (all_below (λ i. ltb (word_of f i) 2) (count_of f))

unfoldable pub file_rows : List ℕ → List (Test ℕ)
file_rows f =
    length_wrong f gives 20 otherwise
    kind_wrong f gives 21 otherwise
    places_wrong f gives 22 otherwise
    words_wrong f gives 23 otherwise
    []

unfoldable pub file_refusal : List ℕ → ℕ
file_refusal f = first_of (file_rows f) 0

-- ---- entry i of any bytes. It is there if it is counted, stands whole in the contents, and its body lies within the file
unfoldable pub is_there : List ℕ → ℕ → Bool
is_there f i =
    ltb i (count_of f) and
    leb (entry_place head_width (i + 1)) (length f) and
    leb (offset_of head_width f i + length_of head_width f i) (length f)

-- clock, port, word and the body's place
pub record Fields : Type 0 where
  pub there : Bool
  pub clock : ℕ
  pub port : ℕ
  pub word : ℕ
  pub start : ℕ
  pub length : ℕ

-- one that isn't there has no clock, port, word or body
abbrev pub no_fields : Fields
no_fields = record { there = false; clock = 0; port = 0; word = 0; start = 0; length = 0 }

unfoldable pub fields_of : List ℕ → ℕ → Fields
fields_of f i =
    is_there f i
    then record { there = true; clock = clock_of f i; port = port_of f i; word = word_of f i; start = offset_of head_width f i; length = length_of head_width f i }
    otherwise no_fields

-- the fields as the code returns them
abbrev pub fields_as : Option EntryHead → Fields
fields_as None = no_fields
fields_as (Some e) = record { there = true; clock = e.clock; port = e.port; word = e.word; start = e.start; length = e.length }

unfoldable pub body_of : List ℕ → ℕ → List ℕ
body_of f i = part f (fields_of f i).start (fields_of f i).length

unfoldable pub entry_of : List ℕ → ℕ → Entry
entry_of f i =
    record { clock = (fields_of f i).clock; port = (fields_of f i).port; word = (fields_of f i).word; body = body_of f i }

unfoldable pub entries_of : List ℕ → List Entry
entries_of f = list_of (entry_of f) (count_of f)
