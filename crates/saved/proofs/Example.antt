-- What is stated of all files, on one: a relay with two ports on, a path and a remembered hash; and on one of edition 1. The contents and the refusals are
-- computed.
use Prim.Native.Nat.{ℕ, zero, suc, ◌+◌, ◌-◌, ◌*◌, ◌≤◌, ◌<◌}
use native.Mathlib.Decide.{dec_lt}
use native.Mathlib.Omega.{arith}
use mathlib.Core.Bool.{true}
use mathlib.Core.List.{List, [], ◌∷◌, ◌++◌, append_assoc}
use mathlib.Core.Path.{◌≡◌, refl, sym, ap, subst, ◌∙◌}
use lib.Dec.{leb, lit<}
use lib.ListN.{length, get_or, take, set, replicate, length-replicate, get_or-eq_default}
use Rattle.octets.specs.Bytes.{Bytes}
use Rattle.octets.specs.Index.{◌and◌, all_below, list_of}
use Rattle.octets.specs.Choice.{◌then◌otherwise◌}
use Rattle.octets.specs.Listed.{◌gives◌otherwise◌, first_of}
use Rattle.octets.specs.Part.{part, patch, joined}
use Rattle.octets.specs.BigEndian.{number_from, number, big_endian}
use Rattle.octets.proofs.ListOf.{list_of_length, list_of_at, list_of_cong, list_of_get_d}
use Rattle.codes.specs.Codes.{fill}
use Rattle.codes.specs.Form.{octets_in, many, slot, code}
use Rattle.recording.specs.Shape.{kind_of, edition_of, count_of, offset_of, length_of, sum_below, running_place, offsets_right, end_right}
use Rattle.numbers.specs.Numbers.{longest_packet, port_count, path_count, blob_limit}
use Rattle.notes.specs.Notes.{no_notes}
use Rattle.rules.specs.Relay.{fresh_port, no_port, no_rate_settings, no_rate_entry, Slot, empty, used, Path, make_path, Relay}
use Rattle.rules.specs.Blobs.{no_blob}
use Rattle.rules.specs.Refusals.{tables_ok}
use Rattle.rules.specs.declared.Tally.{Tally}
use Rattle.rules.proofs.History.{TallyFits}
use Rattle.rules.proofs.Unfolding.{rules}
use Rattle.rules.proofs.Outcomes.{relay_of, known_path, link_of, return_of}
use Rattle.tables.specs.Forms.{blob_width, port_form_in, path_form_in, path_form, relay_form_in, relay_form}
use Rattle.tables.specs.Places.{port_width, path_width, ports_at, table_size}
use Rattle.tables.specs.Layout.{relay_of as layout_relay, bytes_of, well_formed}
use Rattle.tables.specs.Shape.{is_byte, is_bytes, notes_shaped, path_shaped, link_shaped, return_shaped, hash_shaped, shaped}
use Rattle.tables.proofs.Whole.{relay_good, back, ok_bytes, bytes_bytes}
use Rattle.editions.specs.Editions.{older_blob_limit, edition1, current_edition, is_known_by, is_known, held, current, width_at}
use Rattle.saved.specs.File.{body_count, file_in, saved_size}
use Rattle.saved.specs.Save.{save_on}
use Rattle.saved.specs.Load.{length_wrong, kind_wrong_by, kind_wrong, contents_wrong, sizes_right, bodies_wrong, load_rows, load_refusal, LoadedOn, load_on}
use Rattle.saved.specs.Steps.{start_bytes, entry_bytes, contents_bytes}
use Rattle.saved.proofs.SaveLaws.{refused_tables, refused_room, save_refused, file_made}
use Rattle.saved.proofs.LoadLaws.{other_size, load_refused, load_number}
use Rattle.saved.proofs.Made.{file_long}
use Rattle.saved.proofs.RoundTrip.{written, written_file, written_edition, written_bytes, earlier_refuses, save_then_load, loaded_formed, load_then_save, older_loads}

-- ---- what is computed with
unfoldable pub computing : Unit {0}
unfolding number number_from big_endian part joined list_of all_below sum_below first_of ◌and◌ ◌then◌otherwise◌ width_at entry_bytes contents_bytes
    load_refusal load_rows length_wrong kind_wrong kind_wrong_by contents_wrong bodies_wrong sizes_right is_known is_known_by end_right offsets_right
    running_place kind_of edition_of count_of offset_of length_of
computing = tt

-- ---- a relay's tables and a tally
-- a path and a proved link, a receipt under way, and a hash that has expired at the last clock
abbrev relay_with : Path → Relay
relay_with path =
    relay_of 2000
    (used path ∷ [])
    (used (link_of (replicate 16 8) 2 1 true 2720) ∷ [])
    (used (return_of (replicate 16 9)) ∷ [])
    (used (record { hash = replicate 32 7; expiry = 1300 }) ∷ [])

abbrev pub relay : Relay
relay = relay_with known_path

abbrev pub tables : List ℕ
tables = bytes_of relay

shape : shaped relay ≡ true
unfolding rules shaped path_shaped notes_shaped link_shaped return_shaped hash_shaped is_bytes is_byte
shape = refl

ok : tables_ok relay ≡ true
unfolding rules
ok = refl

pub well : well_formed tables ≡ true
well = ok_bytes relay shape ok

pub are_bytes : Bytes tables
are_bytes = bytes_bytes relay shape ok

abbrev pub tally : Tally
tally = record { total = 4294967295; dropped = 0; delivered = 0; forwarded = 1; spread = 1; kept = 7 }

pub small : TallyFits tally
small = record { total = lit< tt; dropped = lit< tt; delivered = lit< tt; forwarded = lit< tt; spread = lit< tt; kept = lit< tt }

-- eight bytes more than the file has; tables and a tally that hold something else
abbrev pub room : List ℕ
room = replicate (saved_size + 8) 9

abbrev pub other : List ℕ
other = replicate table_size 255

abbrev pub old : Tally
old = record { total = 5; dropped = 5; delivered = 0; forwarded = 0; spread = 0; kept = 0 }

pub large : saved_size ≤ length room
large = omega (arith, length-replicate {A = ℕ} (saved_size + 8) 9)

-- the file, as it stands in the room
abbrev pub file : List ℕ
file = written tables tally are_bytes well small room large

-- ---- the theorems on it
pub loaded : load_on file other old ≡ record { refusal = 0; tables = tables; tally = tally }
loaded = save_then_load tables tally are_bytes well small room large other old (length-replicate {A = ℕ} table_size 255)

pub saved_again : save_on tables tally room ≡ record { answer = record { refusal = 0; length = length file }; room = patch room 0 file }
saved_again =
    ap (λ (x : LoadedOn). save_on x.tables x.tally room) (sym loaded)
    ∙ load_then_save file other old (written_bytes tables tally are_bytes well small room large)
    (ap (λ (x : LoadedOn). x.refusal) loaded)
    (written_edition tables tally are_bytes well small room large) room large

-- a program of the edition before refuses it
pub earlier : ◌≡◌ {A = ℕ} (first_of (length_wrong file gives 20 otherwise kind_wrong_by (current_edition - 1) file gives 21 otherwise []) 0) 21
earlier = earlier_refuses tables tally are_bytes well small room large (current_edition - 1) (lit< tt) []

-- loaded tables pass refusal 7
pub loaded_well : well_formed (load_on file other old).tables ≡ true
loaded_well =
    loaded_formed file other old (written_bytes tables tally are_bytes well small room large) (ap (λ (x : LoadedOn). x.refusal) loaded)

-- ---- the contents, computed: kind, edition, count; then the offset and the length of each body. Where editions differ, the
-- layout tells the length: in edition 5 the first body is 36 bytes long, the ports' 64, and the paths' 44,928
abbrev item : ℕ → ℕ → List ℕ
item offset long = big_endian 4 offset ++ big_endian 2 long

abbrev first_long : ℕ
first_long = ports_at

abbrev ports_long : ℕ
ports_long = port_width * port_count

abbrev paths_long : ℕ
paths_long = path_width * path_count

abbrev pub contents : List ℕ
contents =
    let locals = 52 + first_long + ports_long in
    let links = locals + 272 + paths_long in
    2 ∷ current_edition ∷ 0 ∷ 8 ∷
    (item 52 first_long
    ++ (item (52 + first_long) ports_long
    ++ (item locals 272
    ++ (item (locals + 272) paths_long
    ++ (item links 1920
    ++ (item (links + 1920) 13826
    ++ (item (links + 1920 + 13826) 41986
    ++ item (links + 1920 + 13826 + 41986) 24)))))))

start : start_bytes ++ contents_bytes body_count ≡ contents
unfolding computing
start = refl

pub begins : take 52 file ≡ contents
unfolding big_endian
begins =
    ap (take 52)
    (written_file tables tally are_bytes well small room large
    ∙ file_made (layout_relay tables, tally)
    ∙ sym (append_assoc start_bytes (contents_bytes body_count) ((code current).write (layout_relay tables, tally)))
    ∙ ap (λ (r : List ℕ). r ++ (code current).write (layout_relay tables, tally)) start)

-- ---- the refusals of a load
-- eight empty bodies: nothing is wrong with the contents
abbrev pub empties : List ℕ
empties = 2 ∷ 1 ∷ 0 ∷ 8 ∷ joined (λ i. 0 ∷ 0 ∷ 0 ∷ 52 ∷ 0 ∷ 0 ∷ []) (list_of (λ i. i) 8)

-- where two faults meet, the earlier row's number: nothing; three bytes; a byte too many, of another kind; of another kind, with another count;
-- edition 0; the one after the current edition; no entries; a wrong offset, and bodies of wrong length; bodies of wrong length, and tables of another
-- size; cut by a byte
pub refusals : ◌≡◌ {A = List ℕ}
    (load_refusal [] 0 ∷
    load_refusal (2 ∷ 1 ∷ 0 ∷ []) 0 ∷
    load_refusal (1 ∷ 1 ∷ 0 ∷ 0 ∷ 0 ∷ []) 0 ∷
    load_refusal (1 ∷ 1 ∷ 0 ∷ 0 ∷ []) 0 ∷
    load_refusal (set empties 1 0) 0 ∷
    load_refusal (set empties 1 (current_edition + 1)) 0 ∷
    load_refusal (2 ∷ 1 ∷ 0 ∷ 0 ∷ []) 0 ∷
    load_refusal (set empties 49 51) 0 ∷
    load_refusal empties 0 ∷
    load_refusal (take 51 empties) 0 ∷ [])
    (20 ∷ 20 ∷ 20 ∷ 21 ∷ 21 ∷ 21 ∷ 22 ∷ 22 ∷ 24 ∷ 20 ∷ [])
unfolding computing
refusals = refl

-- tables one byte short stay, and so does the tally
abbrev short_tables : List ℕ
short_tables = replicate (table_size - 1) 255

pub short : load_on file short_tables old ≡ record { refusal = 25; tables = short_tables; tally = old }
short =
    let fits : load_refusal file table_size ≡ 0 =
    ap (load_refusal file) (sym (length-replicate {A = ℕ} table_size 255)) ∙ sym (load_number file other old) ∙ ap (λ (x : LoadedOn). x.refusal) loaded in
    let wrong : load_refusal file (length short_tables) ≡ 25 =
    ap (load_refusal file) (length-replicate {A = ℕ} (table_size - 1) 255)
    ∙ other_size file (table_size - 1) fits (λ (q : ◌≡◌ {A = ℕ} (table_size - 1) table_size). omega (arith, q)) in
    load_refused file short_tables old (λ q. omega (arith, wrong, q))
    ∙ ap (λ (n : ℕ). record { refusal = n; tables = short_tables; tally = old }) wrong

-- ---- the refusals of a save
pub not_tables : save_on [] tally [] ≡ record { answer = record { refusal = 7; length = 0 }; room = [] }
unfolding well_formed ◌and◌
not_tables = save_refused [] tally [] 7 (λ q. omega arith) (refused_tables [] 0 refl)

abbrev short_room : List ℕ
short_room = replicate (saved_size - 1) 9

pub small_room : save_on tables tally short_room ≡ record { answer = record { refusal = 25; length = 0 }; room = short_room }
small_room =
    save_refused tables tally short_room 25 (λ q. omega arith)
    (refused_room tables (length short_room) well (omega (arith, length-replicate {A = ℕ} (saved_size - 1) 9)))

-- ---- a file of edition 1, which has neither settings nor what a path's record has of the announce rate: "edition 1 .. have settings and new fields at 0",
-- no mark: "older ones load unmarked", 16 blobs a path at most: these places, and zeros behind them; and no sizes of ports: "older ones load with 500"
record OlderPath (p : Path) : Type 0 where
  rate : p.rate ≡ no_rate_entry
  notes : p.notes ≡ no_notes
  few : leb p.blobs.count older_blob_limit ≡ true
  spare : fill blob_limit no_blob (fill older_blob_limit no_blob p.blobs.places) ≡ p.blobs.places

abbrev Older : Slot Path → Type 0
Older empty = Unit
Older (used p) = OlderPath p

-- what tables hold without these fields and places, edition 1 can hold
older_good : (r : Relay) → (code relay_form).Good r → r.rate ≡ no_rate_settings → ((i : ℕ) → (get_or r.ports i no_port).size ≡ longest_packet)
    → ((i : ℕ) → Older (get_or r.paths i empty)) → (code (relay_form_in edition1)).Good r
unfolding fill
older_good r g none sized each =
    let (own, (clock, (_, (ports, (locals, (paths, back)))))) = g in
    let old-ports : (code (many port_count no_port (port_form_in edition1))).Good r.ports =
    (ports.0, λ i l. let ((on, (mode, _)), rule) = ports.1 i l in ((on, (mode, sized i)), rule)) in
    (own, (clock, (none, (old-ports, (locals, ((paths.0, λ i l. path (get_or r.paths i empty) (paths.1 i l) (each i)), back))))))
  where
    blob : (xs : List (List ℕ)) → (code (many blob_limit no_blob (octets_in blob_width))).Good xs
        → (code (many older_blob_limit no_blob (octets_in blob_width))).Good (fill older_blob_limit no_blob xs)
    blob xs h = (
      list_of_length _ older_blob_limit,
      λ i l. subst (code (octets_in blob_width)).Good (sym (list_of_at (λ j. get_or xs j no_blob) older_blob_limit i no_blob l)) (h.1 i (omega arith)),
    )

    path : (s : Slot Path) → (code (slot path_form)).Good s → Older s → (code (slot (path_form_in edition1))).Good s
    path empty h e = tt
    path (used p) h e =
        let (head, (_, (_, (count, places)))) = h.0 in
        ((head, (e.rate, (e.notes, ((count, (blob p.blobs.places places, e.spare)), e.few)))), h.1)

-- a path's one blob stands in the first place
one_spare : (x : List ℕ) → fill blob_limit no_blob (fill older_blob_limit no_blob (x ∷ replicate (blob_limit - 1) no_blob)) ≡ x ∷ replicate (blob_limit - 1) no_blob
unfolding fill
one_spare x =
    list_of_cong _ (λ i. get_or whole i no_blob) blob_limit (λ i l. at i (dec_lt i older_blob_limit))
    ∙ list_of_get_d no_blob whole blob_limit (ap suc (length-replicate (blob_limit - 1) no_blob))
  where
    whole : List (List ℕ)
    whole = x ∷ replicate (blob_limit - 1) no_blob

    none : (n i : ℕ) → get_or (replicate n no_blob) i no_blob ≡ no_blob
    none zero i = refl
    none (suc n) zero = refl
    none (suc n) (suc i) = none n i

    behind : (i : ℕ) → older_blob_limit ≤ i → get_or whole i no_blob ≡ no_blob
    behind zero l = absurd (omega arith)
    behind (suc i) l = none (blob_limit - 1) i

    at : (i : ℕ) → Dec (i < older_blob_limit) → get_or (fill older_blob_limit no_blob whole) i no_blob ≡ get_or whole i no_blob
    at i (yes l) = list_of_at (λ j. get_or whole j no_blob) older_blob_limit i no_blob l
    at i (no l) =
        get_or-eq_default (fill older_blob_limit no_blob whole) no_blob {n = i} (omega (arith, list_of_length (λ j. get_or whole j no_blob) older_blob_limit))
        ∙ sym (behind i (omega arith))

abbrev pub older_relay : Relay
older_relay = relay_with (make_path known_path.destination 1 0 known_path.next_hop 22600 no_rate_entry no_notes known_path.blobs)

older_shape : shaped older_relay ≡ true
unfolding rules shaped path_shaped notes_shaped link_shaped return_shaped hash_shaped is_bytes is_byte
older_shape = refl

older_ok : tables_ok older_relay ≡ true
unfolding rules
older_ok = refl

held_good : (code (held edition1)).Good (older_relay, tally)
held_good =
    let g = relay_good (bytes_of older_relay) (bytes_bytes older_relay older_shape older_ok) (ok_bytes older_relay older_shape older_ok) in (
      older_good older_relay (subst (code relay_form).Good (back older_relay older_shape older_ok) g) refl sized older,
      (small.total, (small.dropped, (small.delivered, (small.forwarded, (small.spread, small.kept))))),
    )
  where
    none : (n i : ℕ) → get_or (replicate {A = Slot Path} n empty) i empty ≡ empty
    none zero i = refl
    none (suc n) zero = refl
    none (suc n) (suc i) = none n i

    fresh_sized : (n i : ℕ) → (get_or (replicate n fresh_port) i no_port).size ≡ longest_packet
    fresh_sized zero i = refl
    fresh_sized (suc n) zero = refl
    fresh_sized (suc n) (suc i) = fresh_sized n i

    sized : (i : ℕ) → (get_or older_relay.ports i no_port).size ≡ longest_packet
    sized zero = refl
    sized (suc zero) = refl
    sized (suc (suc zero)) = refl
    sized (suc (suc (suc i))) = fresh_sized 13 i

    older : (i : ℕ) → Older (get_or older_relay.paths i empty)
    older zero = record { rate = refl; notes = refl; few = refl; spare = one_spare _ }
    older (suc i) = subst Older (sym (none 63 i)) tt

-- it is 71,192 bytes long, and loads: the relay is in the tables, the path with zeros
pub older_long : length (file_in 1 (older_relay, tally)) ≡ 60952 + 640 * older_blob_limit
older_long = file_long 1 (older_relay, tally)

pub older_loaded : load_on (file_in 1 (older_relay, tally)) other old ≡ record { refusal = 0; tables = bytes_of older_relay; tally = tally }
unfolding is_known is_known_by ◌and◌
older_loaded = older_loads 1 refl (older_relay, tally) held_good other old (length-replicate {A = ℕ} table_size 255)
