-- Document 02, Wish 1: "A recording has a table of contents first, then the bodies: kind byte 1, edition byte 1, entry count (2 bytes), then per
-- entry clock (5), port (1), signature word (1, 0 or 1), offset in the file (4), length (2), all big-endian. The contents, then the bodies in order,
-- fill the file without gaps; 60,000 bytes at most."
use Rattle.std.specs.Prelude.{ℕ, ◌+◌, ◌-◌, ◌*◌, ◌/◌, ◌^◌, ◌≤◌, ◌<◌, List, [], ◌∷◌, ◌++◌, length, get_or}
use Rattle.octets.specs.Bytes.{Bytes}
use Rattle.octets.specs.BigEndian.{big_endian}
use Rattle.recording.specs.Shape.{contents_start, offset_width, item_width, shape_of}

-- a packet call's clock, arrival port, signature word and packet
pub record Entry : Type 0 where
  pub clock : ℕ
  pub port : ℕ
  pub word : ℕ
  pub body : List ℕ

abbrev pub recording_kind : ℕ
recording_kind = 1

abbrev pub recording_edition : ℕ
recording_edition = 1

abbrev pub longest_file : ℕ
longest_file = 60000

-- an entry's head: clock (5), port (1), signature word (1)
abbrev pub clock_width : ℕ
clock_width = 5

abbrev pub port_at : ℕ
port_at = clock_width

abbrev pub word_at : ℕ
word_at = port_at + 1

abbrev pub head_width : ℕ
head_width = word_at + 1

-- behind the head: offset and length
abbrev pub length_at : ℕ
length_at = head_width + offset_width

abbrev pub entry_width : ℕ
entry_width = item_width head_width

-- the most entries that a file has room for
abbrev pub most_entries : ℕ
most_entries = (longest_file - contents_start) / entry_width

-- what the five bytes of a clock hold; document 01's limit on clocks is the same number
abbrev pub clock_bits : ℕ
clock_bits = 8 * clock_width

abbrev pub recorded_clock_limit : ℕ
recorded_clock_limit = 2 ^ clock_bits

unfoldable pub head_of : Entry → List ℕ
head_of e = big_endian clock_width e.clock ++ (e.port ∷ e.word ∷ [])

abbrev pub entry_body : Entry → List ℕ
entry_body e = e.body

unfoldable pub file_of : List Entry → List ℕ
file_of es = shape_of recording_kind recording_edition head_width head_of entry_body es

-- ---- what a recording can hold: an entry's numbers have no bounds of their own here
pub record RecordableEntry (e : Entry) : Type 0 where
  pub clock : e.clock < recorded_clock_limit
  pub port : e.port < 256
  pub word : e.word < 2
  pub body : Bytes e.body

abbrev pub no_entry : Entry
no_entry = record { clock = 0; port = 0; word = 0; body = [] }

pub record Recordable (es : List Entry) : Type 0 where
  pub each : (i : ℕ) → i < length es → RecordableEntry (get_or es i no_entry)
  pub short : length (file_of es) ≤ longest_file
