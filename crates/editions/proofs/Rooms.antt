-- Editions in which a path has room for fewer blobs: today zeros stand behind those, and their count keeps the edition's own limit.
use Prim.Native.Nat.{ℕ, ◌+◌, ◌-◌, ◌*◌, ◌≤◌}
use native.Mathlib.Nat.{le_refl}
use native.Mathlib.Omega.{arith}
use mathlib.Core.Bool.{Bool, true, false}
use mathlib.Core.List.{List}
use mathlib.Core.Path.{◌≡◌, refl, sym, ap, ap₂, ◌∙◌}
use lib.Dec.{eqb, leb, lit<}
use lib.ListN.{length, get_or, replicate}
use borrow.Author.Tests.{le-leb, eqb-true}
use Rattle.octets.specs.Index.{◌and◌, all_below, zeros}
use Rattle.octets.specs.Choice.{◌then◌otherwise◌}
use Rattle.octets.specs.Part.{part}
use Rattle.octets.proofs.Bytes.{replicate_bytes}
use Rattle.octets.proofs.Index.{all_at, all_cong}
use Rattle.octets.proofs.Part.{part_at, part_whole}
use Rattle.codes.specs.Form.{Form, byte, octets_in, slot, that, code}
use Rattle.codes.proofs.Same.{Same, same_first, same_inside}
use Rattle.numbers.specs.Numbers.{path_count, blob_limit}
use Rattle.rules.specs.Relay.{Blobs, Path}
use Rattle.rules.specs.Blobs.{no_blob}
use Rattle.rules.proofs.Ranges.{path_counted}
use Rattle.notes.specs.Notes.{notes_form}
use Rattle.tables.specs.Forms.{BlobRoom, as_today, fewer, Edition, rate_settings_form, rate_entry_form, blob_width, blobs_form, holds_at_most, blobs_form_in, port_form, path_form_of, relay_form_of, relay_form}
use Rattle.tables.specs.Places.{path_width, paths_at, links_at}
use Rattle.tables.specs.Fields.{path_blobs_at, blobs_width}
use Rattle.tables.specs.Records.{path_of, path_bytes_ok}
use Rattle.tables.specs.Layout.{records_ok, front_ok, back_ok}
use Rattle.tables.proofs.All.{exactly_same}
use Rattle.tables.proofs.Tests.{path_kept}
use Rattle.tables.proofs.Whole.{clauses_of}
use Rattle.editions.specs.Steps.{most_blobs, path_fine}
use Rattle.editions.proofs.Alike.{Alike, same_alike, both_alike, field_alike, that_alike, record_alike, first_alike}

pub room_within : (r : BlobRoom) → most_blobs r ≤ blob_limit
room_within as_today = le_refl blob_limit
room_within (fewer most within) = within

pub room_width : (r : BlobRoom) → (code (blobs_form_in r)).width ≡ 1 + blob_width * most_blobs r
room_width as_today = refl
room_width (fewer most within) = refl

pub room_narrow : (r : BlobRoom) → (code (blobs_form_in r)).width ≤ blobs_width
room_narrow r = omega (arith, room_width r, room_within r)

-- ---- today's layout, with the edition's limit
abbrev pub limited_blobs : BlobRoom → Form Blobs
limited_blobs as_today = blobs_form
limited_blobs (fewer most within) = that (holds_at_most most) blobs_form

abbrev pub limited_path : BlobRoom → Form Path
limited_path r = path_form_of rate_entry_form notes_form (limited_blobs r)

pub limited_width : (r : BlobRoom) → (code (slot (limited_path r))).width ≡ path_width
limited_width as_today = refl
limited_width (fewer most within) = refl

pub limited_reads : (r : BlobRoom) (t : List ℕ) → (code (relay_form_of rate_settings_form port_form (limited_path r))).read t 0 ≡ (code relay_form).read t 0
limited_reads as_today t = refl
limited_reads (fewer most within) t = refl

-- ---- the blobs
blob_good : (code (octets_in blob_width)).Good no_blob
blob_good = (refl, replicate_bytes blob_width 0 (lit< tt))

pub blobs_alike : (r : BlobRoom) {t u : List ℕ} {a b : ℕ} → Same (code (blobs_form_in r)).width t a u b
    → part u (b + (code (blobs_form_in r)).width) (blobs_width - (code (blobs_form_in r)).width) ≡ replicate (blobs_width - (code (blobs_form_in r)).width) 0
    → Alike (blobs_form_in r) (limited_blobs r) t a u b
blobs_alike as_today e rest = same_alike blobs_form e
blobs_alike (fewer most within) {t} {u} {a} {b} e rest =
    let left : blobs_width - (1 + blob_width * most) ≡ blob_width * (blob_limit - most) = omega (arith, within) in
    let place : b + 1 + blob_width * most ≡ b + (1 + blob_width * most) = omega arith in
    let zero : part u (b + 1 + blob_width * most) (blob_width * (blob_limit - most)) ≡ replicate (blob_width * (blob_limit - most)) 0 =
    ap₂ (part u) place (sym left) ∙ rest ∙ ap (λ (n : ℕ). replicate n 0) left in
    that_alike (record_alike
    (both_alike (field_alike (same_alike byte (same_first _ t a u b e 1 (omega arith))))
    (field_alike (first_alike most blob_limit within no_blob (octets_in blob_width) blob_good (exactly_same blob_width no_blob refl) t u _ _
    (same_inside _ t a u b e 1 (blob_width * most) (le_refl _)) zero))))

-- ---- refusal 7 of a record
implied : (x y : Bool) → (x ≡ true → y ≡ true) → x ≡ (x and y)
unfolding ◌and◌
implied true y h = sym (h refl)
implied false y h = refl

-- zeros hold no blob
unused_none : (b : List ℕ) (n : ℕ) → zeros path_width (part b 0 path_width) ≡ true → leb (get_or b path_blobs_at 0) n ≡ true
unfolding zeros
unused_none b n h =
    let none : get_or b path_blobs_at 0 ≡ 0 =
    sym (part_at b 0 path_width path_blobs_at (omega arith))
    ∙ eqb-true _ 0 (all_at (λ i. eqb (get_or (part b 0 path_width) i 0) 0) path_width path_blobs_at h (omega arith)) in
    le-leb (get_or b path_blobs_at 0) n (omega (arith, none))

-- today's limit is among the rules
today_within : (b : List ℕ) → path_bytes_ok b ≡ true → leb (get_or b path_blobs_at 0) blob_limit ≡ true
unfolding path_bytes_ok path_of ◌then◌otherwise◌
today_within b h = go (eqb (get_or b 0 0) 0) refl
  where
    go : (m : Bool) → eqb (get_or b 0 0) 0 ≡ m → leb (get_or b path_blobs_at 0) blob_limit ≡ true
    go true q = unused_none b blob_limit (rw q at h)
    go false q = le-leb _ blob_limit (path_counted (path_of b) (path_kept b q h)).most

limited_here : (e h r m b q k : Bool) → (e and ((h and (r and (m and (b and q)))) and k)) ≡ ((e and ((h and (r and (m and b))) and k)) and q)
unfolding ◌and◌
limited_here false h r m b q k = refl
limited_here true false r m b q k = refl
limited_here true true false m b q k = refl
limited_here true true true false b q k = refl
limited_here true true true true false q k = refl
limited_here true true true true true true true = refl
limited_here true true true true true true false = refl
limited_here true true true true true false true = refl
limited_here true true true true true false false = refl

pub limited_tests : (r : BlobRoom) (b : List ℕ) → (code (slot (limited_path r))).fine b 0 ≡ (path_bytes_ok b and leb (get_or b path_blobs_at 0) (most_blobs r))
unfolding path_bytes_ok ◌then◌otherwise◌
limited_tests as_today b = implied (path_bytes_ok b) _ (today_within b)
limited_tests (fewer most within) b = go (eqb (get_or b 0 0) 0) refl
  where
    go : (m : Bool) → eqb (get_or b 0 0) 0 ≡ m
        → (code (slot (limited_path (fewer most within)))).fine b 0 ≡ (path_bytes_ok b and leb (get_or b path_blobs_at 0) most)
    go true q = rw q (implied _ _ (unused_none b most))
    go false q = rw q (limited_here _ _ _ _ _ (leb (get_or b path_blobs_at 0) most) _)

-- .. and of all tables
pub limited_clauses : (e : Edition) (t : List ℕ) → (code (relay_form_of rate_settings_form port_form (limited_path e.blob_room))).fine t 0
    ≡ (front_ok t and records_ok (path_fine e) paths_at path_width path_count t and back_ok t links_at)
unfolding records_ok path_fine
limited_clauses e t =
    let r : BlobRoom = e.blob_room in
    clauses_of (limited_path r) t
    ∙ ap (λ (w : ℕ).
    front_ok t and records_ok (λ b. (code (slot (limited_path r))).fine b 0) paths_at w path_count t and back_ok t (paths_at + w * path_count)) (limited_width r)
    ∙ ap (λ (q : Bool). front_ok t and q and back_ok t links_at) (all_cong _ _ path_count (λ i l. limited_tests r _))

-- one record, as the section's test has it
pub one_path_lem : (b : List ℕ) → length b ≡ path_width → path_bytes_ok b ≡ records_ok path_bytes_ok 0 path_width 1 b
unfolding records_ok all_below ◌and◌
one_path_lem b e = ap path_bytes_ok (sym (part_whole b path_width e))
