-- The laws of saving: each refusal, and what the code's writes leave.
use Prim.Native.Nat.{ℕ, ◌+◌, ◌*◌, ◌≤◌, ◌<◌, zero-le}
use native.Mathlib.Nat.{le_refl, zero-add, add-zero}
use native.Mathlib.Numerals.{add-one}
use native.Mathlib.Omega.{arith}
use mathlib.Core.Bool.{Bool, true, false, not}
use mathlib.Core.List.{List, [], ◌∷◌, ◌++◌, append_assoc}
use mathlib.Core.Path.{◌≡◌, refl, sym, ap, ap₂, ◌∙◌}
use lib.Dec.{eqb}
use lib.ListN.{length, take, drop, length-append, take-append-drop}
use borrow.Author.Tests.{lt-ltb, le-ltb, eq-eqb, ne_eqb}
use Rattle.octets.specs.Bytes.{Bytes}
use Rattle.octets.specs.Index.{list_of}
use Rattle.octets.specs.Part.{part, patch, joined}
use Rattle.octets.specs.BigEndian.{big_endian}
use Rattle.octets.proofs.BigEndian.{big_endian_length}
use Rattle.octets.proofs.Choice.{then_true, then_false}
use Rattle.octets.proofs.Listed.{here, past, none_first}
use Rattle.octets.proofs.Part.{part_length, part_whole, patch_join}
use Rattle.codes.specs.Form.{code}
use Rattle.codes.proofs.Forms.{lawful}
use Rattle.codes.proofs.Pieces.{fields_written}
use Rattle.recording.specs.Shape.{entry_place, sum_below, item_of, contents_start, count_at, count_width, offset_width, length_width, item_width}
use Rattle.recording.proofs.Sums.{sum_cong, sum_const, joined_cong, joined_none, joined_more, joined_cut, joined_sum, patch_three}
use Rattle.recording.proofs.ShapeLaws.{long_of, place_of, shape_list_of}
use Rattle.rules.specs.declared.Tally.{Tally}
use Rattle.tables.specs.Places.{table_size}
use Rattle.tables.specs.Layout.{relay_of, bytes_of, well_formed}
use Rattle.tables.proofs.Whole.{again, formed}
use Rattle.editions.specs.Editions.{Held, tally_form, numbered, edition_at, current_edition, current, width_at, counter_width}
use Rattle.saved.specs.File.{saved_kind, body_count, head_width, no_head, whole_body, bodies_at, body_of, file_in, file_of, saved_size}
use Rattle.saved.specs.Save.{save_rows, save_refusal, SavedOn, save_on}
use Rattle.saved.specs.Steps.{start_bytes, entry_bytes, contents_bytes, tally_bytes, counter_at}
use Rattle.editions.proofs.Widths.{widths_in_lem, width_within}

-- ---- the rows, in their order
module _ (tables : List ℕ) (room : ℕ) where
  pub refused_tables : well_formed tables ≡ false → save_refusal tables room ≡ 7
  unfolding save_refusal save_rows
  refused_tables e = here _ 7 _ 0 (ap not e)

  module _ (h : well_formed tables ≡ true) where
    pub refused_room : room < saved_size → save_refusal tables room ≡ 25
    unfolding save_refusal save_rows
    refused_room l = past _ 7 _ 0 (ap not h) ∙ here _ 25 _ 0 (lt-ltb room saved_size l)

    pub not_refused : saved_size ≤ room → save_refusal tables room ≡ 0
    unfolding save_refusal save_rows
    not_refused l = none_first (save_rows tables room) 0 (ap not h, (le-ltb room saved_size l, tt))

-- ---- `save_on`, by its refusal
module _ (tables : List ℕ) (tally : Tally) (room : List ℕ) where
  pub save_done : save_refusal tables (length room) ≡ 0
      → save_on tables tally room ≡ record { answer = record { refusal = 0; length = saved_size }; room = patch room 0 (file_of (relay_of tables, tally)) }
  unfolding save_on
  save_done e = then_true _ _ (eq-eqb (save_refusal tables (length room)) 0 e)

  pub save_refused : (n : ℕ) → (n ≡ 0 → ⊥) → save_refusal tables (length room) ≡ n
      → save_on tables tally room ≡ record { answer = record { refusal = n; length = 0 }; room = room }
  unfolding save_on
  save_refused n some e =
      then_false _ _ (ne_eqb (save_refusal tables (length room)) 0 (λ q. some (sym e ∙ q)))
      ∙ ap (λ (k : ℕ). record { answer = record { refusal = k; length = 0 }; room = room }) e

  -- the length is the file's or 0
  pub save_most : (save_on tables tally room).answer.length ≤ saved_size
  unfolding save_on
  save_most = go (eqb (save_refusal tables (length room)) 0) refl
    where
      go : (b : Bool) → eqb (save_refusal tables (length room)) 0 ≡ b → (save_on tables tally room).answer.length ≤ saved_size
      go true e = rw (then_true {A = SavedOn} _ _ e) (le_refl saved_size)
      go false e = rw (then_false {A = SavedOn} _ _ e) zero-le

-- ---- the bodies of a file in edition n, one after the other
module _ (n : ℕ) (held : Held) where
  abbrev saved : List ℕ
  saved = (code (edition_at n)).write held

  pub saved_length : length saved ≡ (code (edition_at n)).width
  saved_length = (lawful (edition_at n)).wide held

  pub body_length : (i : ℕ) → i < body_count → long_of whole_body (body_of (edition_at n) held) i ≡ width_at (edition_at n) i
  unfolding body_of
  body_length i l =
      part_length saved (sum_below (width_at (edition_at n)) i) (width_at (edition_at n) i) (omega (arith, saved_length, width_within (numbered n) i l))

  pub body_place : (i : ℕ) → i ≤ body_count → sum_below (long_of whole_body (body_of (edition_at n) held)) i ≡ sum_below (width_at (edition_at n)) i
  body_place i l = sum_cong (long_of whole_body (body_of (edition_at n) held)) (width_at (edition_at n)) i (λ j m. body_length j (omega arith))

  pub bodies_joined : joined whole_body (list_of (body_of (edition_at n) held) body_count) ≡ saved
  unfolding body_of
  bodies_joined =
      joined_cut whole_body (body_of (edition_at n) held) saved 0 (width_at (edition_at n)) body_count
      (λ i l. ap (λ (k : ℕ). part saved k (width_at (edition_at n) i)) (sym (zero-add (sum_below (width_at (edition_at n)) i))))
      ∙ part_whole saved (sum_below (width_at (edition_at n)) body_count) (saved_length ∙ sym (widths_in_lem (numbered n)))

-- ---- the current edition's file, put together: start, contents, bodies
module _ (held : Held) where
  item_made : (i : ℕ) → i < body_count
      → entry_bytes (bodies_at + sum_below (width_at current) i) i ≡ item_of no_head whole_body (place_of whole_body (body_of current held) bodies_at i)
  unfolding entry_bytes item_of
  item_made i l =
      ap₂ (λ (p q : ℕ). big_endian offset_width (bodies_at + p) ++ big_endian length_width q)
      (sym (body_place current_edition held i (omega arith))) (sym (body_length current_edition held i l))

  pub file_made : file_of held ≡ start_bytes ++ (contents_bytes body_count ++ (code current).write held)
  unfolding file_of file_in contents_bytes
  file_made =
      shape_list_of saved_kind current_edition head_width no_head whole_body (body_of current held) body_count
      ∙ ap₂ (λ (p q : List ℕ). start_bytes ++ (p ++ q))
      (sym (joined_cong (λ i. entry_bytes (bodies_at + sum_below (width_at current) i) i) (λ i. i)
      (item_of no_head whole_body) (place_of whole_body (body_of current held) bodies_at) body_count item_made))
      (bodies_joined current_edition held)

-- ---- the code's writes, one after the other, are one
pub start_written : (room : List ℕ) → contents_start ≤ length room
    → patch (patch (patch room 0 (saved_kind ∷ [])) 1 (current_edition ∷ [])) count_at (big_endian count_width body_count) ≡ patch room 0 start_bytes
start_written room l =
    patch_three room 0 1 count_at (saved_kind ∷ []) (current_edition ∷ []) (big_endian count_width body_count) refl refl
    (omega (arith, big_endian_length count_width body_count))

pub entry_written : (room : List ℕ) (at offset i : ℕ) → at + item_width head_width ≤ length room
    → patch (patch room at (big_endian offset_width offset)) (at + offset_width) (big_endian length_width (width_at current i)) ≡ patch room at (entry_bytes offset i)
unfolding entry_bytes
entry_written room at offset i l =
    patch_join room at (at + offset_width) (big_endian offset_width offset) (big_endian length_width (width_at current i))
    (omega (arith, big_endian_length offset_width offset)) (omega (arith, big_endian_length length_width (width_at current i)))

entry_length : (offset i : ℕ) → length (entry_bytes offset i) ≡ item_width head_width
unfolding entry_bytes
entry_length offset i = simp (length-append, big_endian_length) refl

pub contents_length : (n : ℕ) → length (contents_bytes n) ≡ item_width head_width * n
unfolding contents_bytes
contents_length n =
    joined_sum (λ i. entry_bytes (bodies_at + sum_below (width_at current) i) i) (λ i. i) n
    ∙ sum_cong (λ i. length (entry_bytes (bodies_at + sum_below (width_at current) i) i)) (λ i. item_width head_width) n (λ i m. entry_length _ i)
    ∙ sum_const (item_width head_width) n

pub contents_none : (room : List ℕ) → room ≡ patch room contents_start (contents_bytes 0)
unfolding contents_bytes patch
contents_none room =
    sym (take-append-drop contents_start room)
    ∙ ap (λ (r : List ℕ). take contents_start room ++ (r ++ drop (contents_start + length r) room))
    (sym (joined_none (λ i. entry_bytes (bodies_at + sum_below (width_at current) i) i) (λ i. i)))

pub contents_more : (room : List ℕ) (i : ℕ) → entry_place head_width (i + 1) ≤ length room
    → patch (patch room contents_start (contents_bytes i)) (entry_place head_width i) (entry_bytes (bodies_at + sum_below (width_at current) i) i)
    ≡ patch room contents_start (contents_bytes (i + 1))
unfolding contents_bytes
contents_more room i l =
    let offset : ℕ = bodies_at + sum_below (width_at current) i in
    patch_join room contents_start (entry_place head_width i) (contents_bytes i) (entry_bytes offset i)
    (omega (arith, contents_length i)) (omega (arith, entry_length offset i))
    ∙ ap (patch room contents_start)
    (sym (joined_more (λ j. entry_bytes (bodies_at + sum_below (width_at current) j) j) (λ j. j) i) ∙ ap contents_bytes (sym (add-one i)))

-- counter by counter
pub tally_written : (tally : Tally) (room : List ℕ) (at : ℕ) → at + (code tally_form).width ≤ length room
    → patch
    (patch
    (patch
    (patch (patch (patch room at (big_endian counter_width tally.total)) (at + counter_at "dropped") (big_endian counter_width tally.dropped))
    (at + counter_at "delivered") (big_endian counter_width tally.delivered))
    (at + counter_at "forwarded") (big_endian counter_width tally.forwarded))
    (at + counter_at "spread") (big_endian counter_width tally.spread))
    (at + counter_at "kept") (big_endian counter_width tally.kept)
    ≡ patch room at (tally_bytes tally)
unfolding tally_bytes
tally_written tally room at l = rw (sym (fields_written tally_form tally room at l), add-zero at)

-- start, contents, tables and tally
pub file_written : (tables : List ℕ) (tally : Tally) (room : List ℕ) → Bytes tables → well_formed tables ≡ true → saved_size ≤ length room
    → patch (patch (patch (patch room 0 start_bytes) contents_start (contents_bytes body_count)) bodies_at tables) (bodies_at + table_size) (tally_bytes tally)
    ≡ patch room 0 (file_of (relay_of tables, tally))
unfolding bytes_of tally_bytes
file_written tables tally room b h l =
    let size = (formed tables h).size in
    let wide = (lawful tally_form).wide tally in
    let contents = contents_length body_count in
    let start = big_endian_length count_width body_count in
    let front : List ℕ = start_bytes ++ (contents_bytes body_count ++ tables) in
    let long : length front ≡ (bodies_at + table_size) = simp length-append (omega arith) in
    ap (λ (r : List ℕ). patch r (bodies_at + table_size) (tally_bytes tally))
    (patch_three room 0 contents_start bodies_at start_bytes (contents_bytes body_count) tables (omega arith) (omega arith) (omega arith))
    ∙ patch_join room 0 (bodies_at + table_size) front (tally_bytes tally) (omega (arith, long)) (omega arith)
    ∙ ap (patch room 0)
    (append_assoc start_bytes (contents_bytes body_count ++ tables) (tally_bytes tally)
    ∙ ap (λ (r : List ℕ). start_bytes ++ r) (append_assoc (contents_bytes body_count) tables (tally_bytes tally))
    ∙ ap (λ (r : List ℕ). start_bytes ++ (contents_bytes body_count ++ (r ++ tally_bytes tally))) (sym (again tables b h))
    ∙ sym (file_made (relay_of tables, tally)))
