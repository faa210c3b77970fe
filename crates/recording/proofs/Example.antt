-- A recording of two packets and the empty one, computed: what is stated of all files is stated of some.
use Prim.Native.Nat.{ℕ}
use mathlib.Core.List.{List, [], ◌∷◌, ◌++◌}
use mathlib.Core.Path.{◌≡◌, refl}
use lib.ListN.{take, set, replicate}
use Rattle.octets.specs.Index.{◌and◌, all_below, list_of}
use Rattle.octets.specs.Choice.{◌or◌, ◌then◌otherwise◌}
use Rattle.octets.specs.Listed.{first_of}
use Rattle.octets.specs.Part.{part, patch, joined}
use Rattle.octets.specs.BigEndian.{number_from, number, big_endian}
use Rattle.recording.specs.Shape.{placed, item_of, contents_of, shape_of, kind_of, edition_of, count_of, offset_of, length_of, sum_below, running_place, offsets_right, end_right}
use Rattle.recording.specs.Format.{Entry, head_of, file_of}
use Rattle.recording.specs.Reader.{clock_of, port_of, word_of, length_wrong, kind_wrong, places_wrong, words_wrong, file_rows, file_refusal, is_there, fields_of, body_of, entry_of, entries_of}
use Rattle.recording.specs.Writer.{given_count, given_clock, given_port, given_word, given_length, given_start, given_entry, given_entries, given_words_wrong, given_clocks_wrong, add_up, file_length, writing_rows, writing_refusal, writing, given_item, given_of}

-- ---- what is computed with
unfoldable computing : Unit {0}
unfolding number number_from big_endian part patch joined list_of all_below sum_below first_of ◌and◌ ◌or◌ ◌then◌otherwise◌
computing = tt

unfoldable making : Unit {0}
unfolding computing file_of shape_of contents_of placed item_of head_of
making = tt

unfoldable reading : Unit {0}
unfolding computing file_refusal file_rows length_wrong kind_wrong places_wrong words_wrong offsets_right end_right running_place kind_of edition_of
    count_of offset_of length_of entries_of entry_of body_of fields_of is_there clock_of port_of word_of
reading = tt

unfoldable giving : Unit {0}
unfolding making writing writing_refusal writing_rows given_words_wrong given_clocks_wrong add_up file_length given_count given_clock
    given_port given_word given_length given_start given_entry given_entries given_of given_item
giving = tt

-- ---- two packets, of three bytes and of one
abbrev pub entries : List Entry
entries =
    record { clock = 1000; port = 3; word = 1; body = 12 ∷ 0 ∷ 250 ∷ [] } ∷
    record { clock = 1099511627775; port = 15; word = 0; body = 33 ∷ [] } ∷ []

-- kind, edition, count; the first entry, its body at 30; the second, its body at 33; the bodies
abbrev pub file : List ℕ
file =
    1 ∷ 1 ∷ 0 ∷ 2 ∷
    0 ∷ 0 ∷ 0 ∷ 3 ∷ 232 ∷ 3 ∷ 1 ∷ 0 ∷ 0 ∷ 0 ∷ 30 ∷ 0 ∷ 3 ∷
    255 ∷ 255 ∷ 255 ∷ 255 ∷ 255 ∷ 15 ∷ 0 ∷ 0 ∷ 0 ∷ 0 ∷ 33 ∷ 0 ∷ 1 ∷
    12 ∷ 0 ∷ 250 ∷ 33 ∷ []

-- the entries as the writer is given them
abbrev pub given : List ℕ
given =
    0 ∷ 0 ∷ 0 ∷ 0 ∷ 0 ∷ 0 ∷ 3 ∷ 232 ∷ 3 ∷ 1 ∷ 0 ∷ 3 ∷
    0 ∷ 0 ∷ 0 ∷ 255 ∷ 255 ∷ 255 ∷ 255 ∷ 255 ∷ 15 ∷ 0 ∷ 0 ∷ 1 ∷ []

abbrev pub bodies : List ℕ
bodies = 12 ∷ 0 ∷ 250 ∷ 33 ∷ []

pub made : file_of entries ≡ file
unfolding making
made = refl

pub read : entries_of file ≡ entries
unfolding reading
read = refl

pub handed : given_of entries ≡ given
unfolding giving
handed = refl

-- into room for 36 bytes, of which two are left
pub written : writing given bodies (replicate 36 9) ≡ record { answer = record { refusal = 0; length = 34 }; room = file ++ (9 ∷ 9 ∷ []) }
unfolding giving
written = refl

-- the refusals, where two faults meet the earlier row's: nothing; cut in the contents, and of another kind; of another edition, with a wrong signature
-- word; a wrong offset behind a wrong word; cut in the last body; longer than the bodies; a wrong word
pub refusals : ◌≡◌ {A = List ℕ}
    (file_refusal file ∷
    file_refusal (set (take 29 file) 0 2) ∷
    file_refusal (set (set file 1 2) 10 2) ∷
    file_refusal (set (set file 10 2) 27 34) ∷
    file_refusal (take 33 file) ∷
    file_refusal (file ++ (0 ∷ [])) ∷
    file_refusal (set file 10 2) ∷ [])
    (0 ∷ 20 ∷ 21 ∷ 22 ∷ 22 ∷ 22 ∷ 23 ∷ [])
unfolding reading
refusals = refl

-- the writer's: nothing; a wrong word behind a clock of 2^40, bodies that are missing and no room; the same without the word; without the clock;
-- a cut entry; too little room
pub writing_refusals : ◌≡◌ {A = List ℕ}
    (writing_refusal given bodies 34 ∷
    writing_refusal (set (set given 2 1) 21 2) [] 0 ∷
    writing_refusal (set given 2 1) [] 0 ∷
    writing_refusal given [] 0 ∷
    writing_refusal (take 23 given) (12 ∷ 0 ∷ 250 ∷ []) 34 ∷
    writing_refusal given bodies 33 ∷ [])
    (0 ∷ 23 ∷ 5 ∷ 20 ∷ 20 ∷ 25 ∷ [])
unfolding giving
writing_refusals = refl

-- the empty recording: four bytes, no entry
abbrev pub no_packets : List ℕ
no_packets = 1 ∷ 1 ∷ 0 ∷ 0 ∷ []

pub empty : (file_of [] ≡ no_packets) × (file_refusal no_packets ≡ 0) × (entries_of no_packets ≡ [])
unfolding making reading
empty = (refl, refl, refl)
