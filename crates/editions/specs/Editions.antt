-- Document 02, Wish 4: what a file of saved tables holds, edition by edition. "Each body's layout is yours to fix, later fields too; write it down."
-- A body is a section of the tables as the layout has it, the last one the tally (docs/LAYOUT.md). A later edition is one more line in `editions`,
-- and a field of `Edition` (tables/specs/Forms.antt) for each part of the layout that older ones have otherwise.
use Rattle.std.specs.Prelude.{ℕ, ◌+◌, ◌-◌, ◌*◌, Bool, List, [], ◌∷◌, ◌≡◌, refl, ltb, leb, length, get_or}
use Prim.Native.String.{String}
use Rattle.std.proofs.Common.{lit≤}
use lib.Text.{eqt}
use Rattle.octets.specs.Index.{◌and◌, list_of}
use Rattle.codes.specs.Form.{Form, byte, mark, number_in, octets_in, given, field, ◌&◌, many, firsts_of, slot, that, as_record, code, one_of}
use Rattle.recording.specs.Shape.{entry_place, sum_below}
use Rattle.numbers.specs.Numbers.{longest_packet, blob_limit}
use Rattle.notes.specs.Notes.{no_notes, notes_form}
use Rattle.rules.specs.Relay.{no_rate_settings, no_rate_entry, Relay}
use Rattle.rules.specs.declared.Tally.{Tally}
use Rattle.tables.specs.Forms.{BlobRoom, as_today, fewer, Edition, rate_settings_form, rate_entry_form, today, relay_form_in}

-- what is saved, and what a load gives: the relay that the tables hold, and the tally
abbrev pub Held : Type 0
Held = Relay × Tally

-- ---- the tally: six numbers
abbrev pub counter_width : ℕ
counter_width = 4

abbrev pub to_tally : ℕ × (ℕ × (ℕ × (ℕ × (ℕ × ℕ)))) → Tally
to_tally (total, (dropped, (delivered, (forwarded, (spread, kept))))) =
    record { total = total; dropped = dropped; delivered = delivered; forwarded = forwarded; spread = spread; kept = kept }

abbrev pub tally_form : Form Tally
tally_form =
    as_record to_tally
    (λ t. (t.total, (t.dropped, (t.delivered, (t.forwarded, (t.spread, t.kept))))))
    (λ x. refl)
    (λ y. refl)
    (field "total" (number_in counter_width)
    & field "dropped" (number_in counter_width)
    & field "delivered" (number_in counter_width)
    & field "forwarded" (number_in counter_width)
    & field "spread" (number_in counter_width)
    & field "kept" (number_in counter_width))

-- ---- the eight bodies, by the fields of the layout that each holds: own address and last clock, ports, local addresses, paths, links, returns, hashes,
-- tally. In every edition these are all fields, in the order in which they stand. Behind the last clock stand wish 5's settings
abbrev pub bodies : List (List String)
bodies =
    ("own" ∷ "clock" ∷ "rate" ∷ []) ∷
    ("ports" ∷ []) ∷
    ("locals" ∷ []) ∷
    ("paths" ∷ []) ∷
    ("links" ∷ []) ∷
    ("returns" ∷ []) ∷
    ("hashes" ∷ []) ∷
    ("tally" ∷ []) ∷
    []

abbrev pub body_count : ℕ
body_count = 8

-- before them an entry for each, which has no head before its offset and length; where the first body starts: 52
abbrev pub head_width : ℕ
head_width = 0

abbrev pub bodies_at : ℕ
bodies_at = entry_place head_width body_count

-- the width of the field of that name, 0 where there is none
abbrev pub width_of : {A : Type 0} → Form A → String → ℕ
width_of byte k = 0
width_of mark k = 0
width_of (number_in n) k = 0
width_of (octets_in n) k = 0
width_of (given v) k = 0
width_of (field name f) k = one_of (eqt name k) (code f).width 0
width_of (f & g) k = width_of f k + width_of g k
width_of (many n spare f) k = 0
width_of (firsts_of m n l spare f) k = 0
width_of (slot f) k = 0
width_of (that rule f) k = width_of f k
width_of (as_record to from same there f) k = width_of f k

-- of several fields
abbrev pub widths_of : {A : Type 0} → Form A → List String → ℕ
widths_of f [] = 0
widths_of f (k ∷ ks) = width_of f k + widths_of f ks

-- ---- the editions, the oldest first: an edition's number is its place in this list, counted from 1. For a field that an edition lacks it says the
-- value (`given`), for one with less room the rest (`firsts_of`)
-- wish 8: "Editions 1 to 3 of saved tables load with what they hold": document 01's 16 blobs a path
abbrev pub older_blob_limit : ℕ
older_blob_limit = 16

abbrev pub older_room : BlobRoom
older_room = fewer older_blob_limit (lit≤ tt)

-- wish 11: "older ones load with 500, as fresh relays have"
abbrev pub older_size : Form ℕ
older_size = given longest_packet

-- wish 5: "edition 1 and a fresh relay have settings and new fields at 0"
abbrev pub edition1 : Edition
edition1 =
    record {
      rate_settings = given no_rate_settings;
      rate_entry = given no_rate_entry;
      notes = given no_notes;
      blob_room = older_room;
      port_size = older_size;
    }

-- "Saved tables take edition 2"; wish 6: "older ones load unmarked"
abbrev pub edition2 : Edition
edition2 =
    record { rate_settings = rate_settings_form; rate_entry = rate_entry_form; notes = given no_notes; blob_room = older_room; port_size = older_size }

-- wish 6: "saved tables take edition 3". Its notes, and those of 4 and 5, are the mark alone: this form stays where `Notes` grows
abbrev pub edition3 : Edition
edition3 = record { rate_settings = rate_settings_form; rate_entry = rate_entry_form; notes = notes_form; blob_room = older_room; port_size = older_size }

-- wish 8: "a new save is edition 4"
abbrev pub edition4 : Edition
edition4 = record { rate_settings = rate_settings_form; rate_entry = rate_entry_form; notes = notes_form; blob_room = as_today; port_size = older_size }

-- wish 11: "Saved tables take edition 5": as the tables are
abbrev pub edition5 : Edition
edition5 = today

abbrev pub editions : List Edition
editions = edition1 ∷ edition2 ∷ edition3 ∷ edition4 ∷ edition5 ∷ []

-- the current one is the last
abbrev pub current_edition : ℕ
current_edition = length editions

-- a program knows the editions up to its own
unfoldable pub is_known_by : ℕ → ℕ → Bool
is_known_by own n = ltb 0 n and leb n own

unfoldable pub is_known : ℕ → Bool
is_known n = is_known_by current_edition n

abbrev pub numbered : ℕ → Edition
numbered n = get_or editions (n - 1) edition1

-- the form of what an edition's bodies hold, one after the other. It gives today's relay and tally
abbrev pub held : Edition → Form Held
held e = relay_form_in e & field "tally" tally_form

abbrev pub edition_at : ℕ → Form Held
edition_at n = held (numbered n)

abbrev pub current : Form Held
current = edition_at current_edition

-- how long body i of an edition is
unfoldable pub width_at : Form Held → ℕ → ℕ
width_at e i = widths_of e (get_or bodies i [])

-- ---- each edition keeps its shape, 1 to 3 whatever today's limit on blobs: a file of each, 71,192, 72,292, 72,356, 103,076 and 103,108 bytes long, and
-- its eight bodies
edition1_size : bodies_at + (code (held edition1)).width ≡ 60952 + 640 * older_blob_limit
edition1_size = refl

edition1_fill : sum_below (width_at (held edition1)) body_count ≡ (code (held edition1)).width
unfolding sum_below width_at
edition1_fill = refl

edition2_size : bodies_at + (code (held edition2)).width ≡ 62052 + 640 * older_blob_limit
edition2_size = refl

edition2_fill : sum_below (width_at (held edition2)) body_count ≡ (code (held edition2)).width
unfolding sum_below width_at
edition2_fill = refl

edition3_size : bodies_at + (code (held edition3)).width ≡ 62116 + 640 * older_blob_limit
edition3_size = refl

edition3_fill : sum_below (width_at (held edition3)) body_count ≡ (code (held edition3)).width
unfolding sum_below width_at
edition3_fill = refl

edition4_size : bodies_at + (code (held edition4)).width ≡ 62116 + 640 * blob_limit
edition4_size = refl

edition4_fill : sum_below (width_at (held edition4)) body_count ≡ (code (held edition4)).width
unfolding sum_below width_at
edition4_fill = refl

edition5_size : bodies_at + (code (held edition5)).width ≡ 62148 + 640 * blob_limit
edition5_size = refl

edition5_fill : sum_below (width_at (held edition5)) body_count ≡ (code (held edition5)).width
unfolding sum_below width_at
edition5_fill = refl

-- .. and of edition 5 the tables alone, 103,032 bytes, and the lengths of its bodies in their order
edition5_tables : (code (relay_form_in edition5)).width ≡ 62072 + 640 * blob_limit
edition5_tables = refl

edition5_bodies : list_of (width_at (held edition5)) body_count
    ≡ 36 ∷ 64 ∷ 272 ∷ (3968 + 640 * blob_limit) ∷ 1920 ∷ 13826 ∷ 41986 ∷ 24 ∷ []
unfolding list_of width_at
edition5_bodies = refl
