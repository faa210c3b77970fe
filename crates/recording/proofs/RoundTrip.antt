-- Reader and writer undo each other, over whole files. For all bytes, entries, bodies and rooms:
--   entries_file, entries_recordable
--                    the file of the entries read is the file, byte for byte, for every file that the reader takes;
--   file_taken, file_entries
--                    the reader takes the file of all entries that can be recorded, and reads them back;
--   read_written     the entries read, given to the writer, make it write the file;
--   written_taken, written_entries, written_given, written_bodies
--                    what is written into the room reads without a refusal and gives entries and bodies back, for all that the writer takes.
-- And what any caller of the reader can rely on: places_within, all_there.
use mathlib.Core.Bool.{true}
use Prim.Native.Nat.{ℕ, ◌+◌, ◌≤◌, ◌<◌}
use mathlib.Core.List.{List}
use mathlib.Core.Path.{◌≡◌, refl, sym, ap, ap₂, subst, ◌∙◌}
use lib.ListN.{length, get_or, take}
use lib.Seq.{take_at}
use Rattle.octets.specs.Bytes.{Bytes}
use Rattle.octets.specs.Index.{list_of}
use Rattle.octets.specs.Part.{patch, joined}
use Rattle.octets.proofs.ListOf.{list_of_get_d}
use Rattle.recording.specs.Shape.{entry_place, count_of}
use Rattle.recording.specs.Format.{Entry, head_width, entry_body, file_of, RecordableEntry, no_entry, Recordable, longest_file}
use Rattle.recording.specs.Reader.{file_refusal, fields_of, entries_of}
use Rattle.recording.specs.Writer.{given_entries, given_of, bodies_of, file_length, writing_refusal, writing}
use Rattle.recording.specs.Reader.{Fields}
use Rattle.recording.proofs.Sums.{joined_sum}
use Rattle.recording.proofs.ReadLaws.{taken, takes, fields_there, fields_within, taken_there}
use Rattle.recording.proofs.WriteLaws.{Writable, writable, writes, writing_done, bodies_given}
use Rattle.recording.proofs.Made.{made_length, made_taken, made_entries, made_bytes, again, read_recordable}
use Rattle.recording.proofs.Given.{given_file_length, given_writable, entries_back, file_length_lem, given_recordable, given_again}

-- ---- the file of entries, read
abbrev entry_at : List Entry → ℕ → Entry
entry_at es i = get_or es i no_entry

listed : (es : List Entry) → list_of (entry_at es) (length es) ≡ es
listed es = list_of_get_d no_entry es (length es) refl

pub file_size : (es : List Entry) → length (file_of es) ≡ entry_place head_width (length es) + length (bodies_of es)
unfolding bodies_of
file_size es =
    ap (λ (s : List Entry). length (file_of s)) (sym (listed es))
    ∙ made_length (entry_at es) (length es)
    ∙ ap (λ (k : ℕ). entry_place head_width (length es) + k) (sym (joined_sum entry_body (entry_at es) (length es)))
    ∙ ap (λ (s : List Entry). entry_place head_width (length es) + length (joined entry_body s)) (listed es)

module _ (es : List Entry) (r : Recordable es) where
  listed_short : length (file_of (list_of (entry_at es) (length es))) ≤ longest_file
  listed_short = subst (λ (s : List Entry). length (file_of s) ≤ longest_file) (sym (listed es)) r.short

  pub file_taken : file_refusal (file_of es) ≡ 0
  file_taken =
      subst (λ (s : List Entry). file_refusal (file_of s) ≡ 0) (listed es)
      (takes (file_of (list_of (entry_at es) (length es))) (made_taken (entry_at es) (length es) r.each listed_short))

  pub file_entries : entries_of (file_of es) ≡ es
  file_entries = subst (λ (s : List Entry). entries_of (file_of s) ≡ s) (listed es) (made_entries (entry_at es) (length es) r.each listed_short)

  pub file_bytes : Bytes (file_of es)
  file_bytes = subst (λ (s : List Entry). Bytes (file_of s)) (listed es) (made_bytes (entry_at es) (length es) r.each listed_short)

-- ---- a file, read and made again
module _ (f : List ℕ) (b : Bytes f) (e : file_refusal f ≡ 0) where
  pub entries_file : file_of (entries_of f) ≡ f
  entries_file = again f b (taken f e)

  pub entries_recordable : Recordable (entries_of f)
  entries_recordable = read_recordable f b (taken f e)

-- ---- the calls: entries that can be recorded, given to the writer
made_written : (x : ℕ → Entry) (n : ℕ) → ((i : ℕ) → i < n → RecordableEntry (x i)) → length (file_of (list_of x n)) ≤ longest_file
    → (room : List ℕ) → length (file_of (list_of x n)) ≤ length room
    → writing (given_of (list_of x n)) (bodies_of (list_of x n)) room
    ≡ record { answer = record { refusal = 0; length = length (file_of (list_of x n)) }; room = patch room 0 (file_of (list_of x n)) }
made_written x n each short room l =
    writing_done (given_of (list_of x n)) (bodies_of (list_of x n)) room
    (writes (given_of (list_of x n)) (bodies_of (list_of x n)) (length room) (given_writable x n each short (length room) l))
    ∙ ap₂ (λ (k : ℕ) (es : List Entry). record { answer = record { refusal = 0; length = k }; room = patch room 0 (file_of es) })
    (given_file_length x n each short) (entries_back x n each short)

pub recordable_written : (es : List Entry) → Recordable es → (room : List ℕ) → length (file_of es) ≤ length room
    → writing (given_of es) (bodies_of es) room ≡ record { answer = record { refusal = 0; length = length (file_of es) }; room = patch room 0 (file_of es) }
recordable_written es r room =
    subst (λ (s : List Entry). length (file_of s) ≤ length room
    → writing (given_of s) (bodies_of s) room ≡ record { answer = record { refusal = 0; length = length (file_of s) }; room = patch room 0 (file_of s) })
    (listed es)
    (made_written (entry_at es) (length es) r.each (listed_short es r) room)

-- what is read and written again
pub read_written : (f room : List ℕ) → Bytes f → file_refusal f ≡ 0 → length f ≤ length room
    → writing (given_of (entries_of f)) (bodies_of (entries_of f)) room ≡ record { answer = record { refusal = 0; length = length f }; room = patch room 0 f }
read_written f room b e l =
    let same : file_of (entries_of f) ≡ f = entries_file f b e in
    recordable_written (entries_of f) (entries_recordable f b e) room (subst (λ (g : List ℕ). length g ≤ length room) (sym same) l)
    ∙ ap (λ (g : List ℕ). record { answer = record { refusal = 0; length = length g }; room = patch room 0 g }) same

-- what is written and read again
module _ (g bodies room : List ℕ) (bg : Bytes g) (bb : Bytes bodies) (e : writing_refusal g bodies (length room) ≡ 0) where
  -- what stands in the room after the call
  abbrev written : List ℕ
  written = take (writing g bodies room).answer.length (writing g bodies room).room

  w : Writable g bodies (length room)
  w = writable g bodies (length room) e

  written_file : written ≡ file_of (given_entries g bodies)
  unfolding patch
  written_file =
      rw (writing_done g bodies room e)
      (take_at (file_of (given_entries g bodies)) _ (file_length g bodies) (file_length_lem g bodies (length room) bg bb w))

  pub written_taken : file_refusal written ≡ 0
  written_taken =
      ap file_refusal written_file ∙ file_taken (given_entries g bodies) (given_recordable g bodies (length room) bg bb w)

  pub written_entries : entries_of written ≡ given_entries g bodies
  written_entries =
      ap entries_of written_file ∙ file_entries (given_entries g bodies) (given_recordable g bodies (length room) bg bb w)

  pub written_given : given_of (entries_of written) ≡ g
  written_given = ap given_of written_entries ∙ given_again g bodies (length room) bg bb w

  pub written_bodies : bodies_of (entries_of written) ≡ bodies
  unfolding bodies_of
  written_bodies = ap bodies_of written_entries ∙ bodies_given g bodies bg w.adds

-- ---- every offset and length that the reader gives lies within the file, for any bytes and any i
pub places_within : (f : List ℕ) (i : ℕ) → (fields_of f i).start + (fields_of f i).length ≤ length f
places_within f i = fields_within f i

-- every entry of a file that the reader takes is there
pub all_there : (f : List ℕ) → file_refusal f ≡ 0 → (i : ℕ) → i < count_of f → (fields_of f i).there ≡ true
all_there f e i l = ap (λ (r : Fields). r.there) (fields_there f i (taken_there f (taken f e) i l))
