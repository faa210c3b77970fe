-- A file of any edition, as the tables have it: what they then hold is what the file holds, and they pass refusal 7 exactly if its bodies do.
use Prim.Native.Nat.{ℕ, ◌+◌, ◌-◌, ◌*◌, ◌≤◌, ◌<◌}
use native.Mathlib.Nat.{zero-add, le_refl}
use native.Mathlib.Omega.{arith}
use mathlib.Core.Bool.{true}
use mathlib.Core.List.{List, [], ◌++◌, append-nil}
use mathlib.Core.Path.{◌≡◌, refl, sym, ap, ap₂, ◌∙◌}
use lib.Dec.{lit<}
use borrow.Author.Tests.{eq-eqb}
use borrow.Rule.Slice.PartMut.{put_mid}
use lib.ListN.{length, take, drop, replicate, length-append, length-replicate}
use Rattle.octets.specs.Bytes.{Bytes}
use Rattle.octets.specs.Index.{◌and◌, zeros}
use Rattle.octets.specs.Part.{part, patch}
use Rattle.octets.specs.BigEndian.{number}
use Rattle.octets.proofs.Index.{and_left, and_right, and_both, all_at, all_intro, all_cong}
use Rattle.octets.proofs.Bytes.{append_bytes, drop_bytes, replicate_bytes, part_bytes}
use Rattle.octets.proofs.Part.{part_length, part_part, part_mid, part_front, part_whole, part_range, patch_length, patch_join, patch_mid, patch_whole}
use Rattle.codes.specs.Form.{octets_in, number_in, many, slot, that, code}
use Rattle.codes.proofs.Many.{many_end}
use Rattle.codes.proofs.Forms.{lawful}
use Rattle.codes.proofs.Same.{same_byte}
use Rattle.recording.proofs.Sums.{joined_each_bytes, patch_three, part_last, part_back}
use Rattle.numbers.specs.Numbers.{port_count, local_count, path_count}
use Rattle.rules.specs.Relay.{fresh_port, no_port, empty}
use Rattle.rules.specs.Refusals.{time_ok, rate_settings_ok}
use Rattle.notes.specs.Notes.{notes_form}
use Rattle.tables.specs.Forms.{BlobRoom, Edition, address_width, time_width, blob_width, rate_settings_form, rate_entry_form, port_form_in, port_form, local_form, head_form, path_form_in, back_form, relay_form_of, relay_form_in}
use Rattle.tables.specs.Places.{port_width, local_width, path_width, own_at, clock_at, rate_at, ports_at, locals_at, paths_at, links_at, back_width, table_size}
use Rattle.tables.specs.Fields.{path_rate_at, path_blobs_at, blobs_width}
use Rattle.tables.specs.Records.{port_bytes, port_bytes_ok, local_bytes_ok}
use Rattle.tables.specs.Layout.{rate_settings_in, start_ok, records_ok, front_ok, back_ok, relay_of, well_formed}
use Rattle.tables.proofs.Whole.{clauses}
use Rattle.editions.specs.Editions.{numbered, bodies_at}
use Rattle.editions.specs.Steps.{start_width, port_width_in, before_blobs, most_blobs, blobs_width_in, path_width_in, ports_place, locals_place, locals_width, paths_place, back_place, tally_place, opened, start_now, port_now, ports_now, front_now, path_now, paths_now, path_fine, paths_fine, tables_now, bodies_fine}
use Rattle.editions.proofs.RecordLaws.{records_none, records_length, record_found, records_more}
use Rattle.editions.proofs.Alike.{and_last, Alike, same_alike, moved_alike, both_alike, field_alike, that_alike, record_alike, slot_alike, many_alike, opened_length, opened_lent, zeros_lent, zeros_behind, zeros_behind_put, Opening, opening}
use Rattle.editions.proofs.PortSizes.{size_within, fresh_good, filled_length, filled_alike}
use Rattle.editions.proofs.EachBrings.{Brings, each_brings}
use Rattle.editions.proofs.Rooms.{room_width, room_narrow, limited_path, limited_width, limited_reads, limited_clauses, blobs_alike}

-- the sections before the paths, alone
front_same : (t : List ℕ) → front_ok (part t 0 paths_at) ≡ front_ok t
unfolding front_ok start_ok rate_settings_in records_ok
front_same t =
    let inside : (k n : ℕ) → k + n ≤ paths_at → part (part t 0 paths_at) k n ≡ part t k n =
    λ k n l. part_part t 0 paths_at k n l ∙ ap (λ (a : ℕ). part t a n) (zero-add k) in
    let clock = ap (λ (b : List ℕ). time_ok (number b)) (inside clock_at time_width (omega arith)) in
    let settings = inside rate_at (code rate_settings_form).width (omega arith) in
    let rate = ap rate_settings_ok ((lawful rate_settings_form).sees (part t 0 paths_at) rate_at t rate_at settings) in
    let ports = all_cong _ _ port_count (λ i l. ap port_bytes_ok (inside (ports_at + port_width * i) port_width (omega arith))) in
    let locals = all_cong _ _ local_count (λ i l. ap local_bytes_ok (inside (locals_at + local_width * i) local_width (omega arith))) in
    λ i. (clock i and rate i) and (ports i and locals i)

opened_bytes : (k n : ℕ) (b : List ℕ) → Bytes b → Bytes (opened k n b)
unfolding opened
opened_bytes k n b h =
    let rest : List ℕ = part b k (length b - k) in
    append_bytes (part b 0 k) (replicate n 0 ++ rest) (part_bytes b 0 k h)
    (append_bytes (replicate n 0) rest (replicate_bytes n 0 (lit< tt)) (part_bytes b k (length b - k) h))

module _ (e : Edition) (h : Brings e) where
  settings_within : (code e.rate_settings).width ≤ (code rate_settings_form).width
  settings_within = h.rate_settings.within

  entry_within : (code e.rate_entry).width + (code e.notes).width ≤ (code rate_entry_form).width + (code notes_form).width
  entry_within = h.path_fields.within

  pub port_within : port_width_in e ≤ port_width
  port_within = omega (arith, size_within h.port_size)

  pub start_within : start_width e ≤ ports_at
  start_within = omega (arith, settings_within)

  pub before_within : before_blobs e ≤ path_blobs_at
  before_within = omega (arith, entry_within)

  blobs_within : blobs_width_in e ≤ blobs_width
  blobs_within = room_narrow e.blob_room

  module _ (f : List ℕ) (size : tally_place e ≤ length f) where
    -- ---- one port
    module _ (i : ℕ) (l : i < port_count) where
      pub port_end : ports_place e + port_width_in e * i + port_width_in e ≤ length f
      port_end = omega (arith, size, many_end (port_width_in e) port_count i l)

      abbrev old_port : List ℕ
      old_port = part f (ports_place e + port_width_in e * i) (port_width_in e)

      old_port_length : length old_port ≡ port_width_in e
      old_port_length = part_length f (ports_place e + port_width_in e * i) (port_width_in e) port_end

      pub port_length : length (port_now e f i) ≡ port_width
      unfolding port_now
      port_length = filled_length e.port_size old_port old_port_length h.port_size

      port_alike : Alike (port_form_in e) port_form old_port 0 (port_now e f i) 0
      unfolding port_now
      port_alike = filled_alike h.port_size old_port old_port_length

    -- ---- one path
    module _ (i : ℕ) (l : i < path_count) where
      pub path_end : paths_place e + path_width_in e * i + path_width_in e ≤ length f
      path_end = omega (arith, size, many_end (path_width_in e) path_count i l)

      -- its bytes in the file, and these with zeros before the blobs
      abbrev old : List ℕ
      old = part f (paths_place e + path_width_in e * i) (path_width_in e)

      abbrev front : List ℕ
      front = opened (before_blobs e) (path_blobs_at - before_blobs e) old

      old_length : length old ≡ path_width_in e
      old_length = part_length f (paths_place e + path_width_in e * i) (path_width_in e) path_end

      pub path_front : length front ≡ path_blobs_at + blobs_width_in e
      path_front =
          opened_length (before_blobs e) (path_blobs_at - before_blobs e) old (omega (arith, old_length))
          ∙ omega (arith, old_length, entry_within)

      behind_length : length (replicate {A = ℕ} (blobs_width - blobs_width_in e) 0) ≡ blobs_width - blobs_width_in e
      behind_length = length-replicate {A = ℕ} (blobs_width - blobs_width_in e) 0

      pub path_length_lem : length (path_now e f i) ≡ path_width
      unfolding path_now
      path_length_lem =
          length-append front (replicate (blobs_width - blobs_width_in e) 0) ∙ omega (arith, path_front, behind_length, blobs_within)

    pub paths_length : (n : ℕ) → n ≤ path_count → length (paths_now e f n) ≡ path_width * n
    unfolding paths_now
    paths_length = records_length (path_now e f) path_width path_count path_length_lem

    path_found : (i : ℕ) → i < path_count → part (paths_now e f path_count) (path_width * i) path_width ≡ path_now e f i
    unfolding paths_now
    path_found = record_found (path_now e f) path_width path_count path_length_lem

    ports_length : length (ports_now e f port_count) ≡ port_width * port_count
    unfolding ports_now
    ports_length = records_length (port_now e f) port_width port_count port_length port_count (le_refl port_count)

    port_found : (i : ℕ) → i < port_count → part (ports_now e f port_count) (port_width * i) port_width ≡ port_now e f i
    unfolding ports_now
    port_found = record_found (port_now e f) port_width port_count port_length

    -- ---- the whole
    pub start_length : length (start_now e f) ≡ ports_at
    unfolding start_now
    start_length =
        let long = part_length f bodies_at (start_width e) (omega (arith, size)) in
        opened_length (start_width e) (ports_at - start_width e) _ (omega (arith, long))
        ∙ omega (arith, long, settings_within)

    locals_length : length (part f (locals_place e) locals_width) ≡ locals_width
    locals_length = part_length f (locals_place e) locals_width (omega (arith, size))

    pub front_length : length (front_now e f) ≡ paths_at
    unfolding front_now
    front_length = simp length-append (omega (arith, start_length, ports_length, locals_length))

    pub back_length : length (part f (back_place e) back_width) ≡ back_width
    back_length = part_length f (back_place e) back_width size

    pub now_length : length (tables_now e f) ≡ table_size
    unfolding tables_now
    now_length = simp length-append (omega (arith, front_length, paths_length path_count (le_refl path_count), back_length))

    pub now_front : part (tables_now e f) 0 paths_at ≡ front_now e f
    unfolding tables_now
    now_front = part_mid [] (front_now e f) (paths_now e f path_count ++ part f (back_place e) back_width) 0 paths_at refl front_length

    pub now_path_lem : (i : ℕ) → i < path_count → part (tables_now e f) (paths_at + path_width * i) path_width ≡ path_now e f i
    unfolding tables_now
    now_path_lem i l =
        part_back (front_now e f) (paths_now e f path_count ++ part f (back_place e) back_width) paths_at (path_width * i) path_width front_length
        ∙ part_front (paths_now e f path_count) (part f (back_place e) back_width) (path_width * i) path_width
        (omega (arith, paths_length path_count (le_refl path_count), many_end path_width path_count i l))
        ∙ path_found i l

    pub now_back : part (tables_now e f) links_at back_width ≡ part f (back_place e) back_width
    unfolding tables_now
    now_back =
        part_back (front_now e f) (paths_now e f path_count ++ part f (back_place e) back_width) paths_at (path_width * path_count) back_width front_length
        ∙ part_last (paths_now e f path_count) (part f (back_place e) back_width) (path_width * path_count) back_width
        (paths_length path_count (le_refl path_count)) back_length

    -- ---- what the tables then hold
    in_front : (k n : ℕ) → k + n ≤ paths_at → part (tables_now e f) k n ≡ part (front_now e f) k n
    in_front k n l =
        ap (λ (a : ℕ). part (tables_now e f) a n) (sym (zero-add k))
        ∙ sym (part_part (tables_now e f) 0 paths_at k n l)
        ∙ ap (λ (r : List ℕ). part r k n) now_front

    start_opening : Opening f bodies_at (tables_now e f) 0 (start_width e) (ports_at - start_width e) (start_width e)
    unfolding front_now start_now
    start_opening =
        let rest : List ℕ = ports_now e f port_count ++ part f (locals_place e) locals_width in
        opening f bodies_at (tables_now e f) 0 (start_width e) (ports_at - start_width e) (start_width e) (omega (arith, size)) (omega arith)
        (ap (part (tables_now e f) 0) (omega (arith, settings_within))
        ∙ in_front 0 ports_at (omega arith)
        ∙ part_mid [] (start_now e f) rest 0 ports_at refl start_length)

    now_port_lem : (i : ℕ) → i < port_count → part (tables_now e f) (ports_at + port_width * i) port_width ≡ port_now e f i
    unfolding front_now
    now_port_lem i l =
        let locals : List ℕ = part f (locals_place e) locals_width in
        in_front (ports_at + port_width * i) port_width (omega arith)
        ∙ part_back (start_now e f) (ports_now e f port_count ++ locals) ports_at (port_width * i) port_width start_length
        ∙ part_front (ports_now e f port_count) locals (port_width * i) port_width (omega (arith, ports_length, many_end port_width port_count i l))
        ∙ port_found i l

    now_locals : part (tables_now e f) locals_at locals_width ≡ part f (locals_place e) locals_width
    unfolding front_now
    now_locals =
        let locals : List ℕ = part f (locals_place e) locals_width in
        in_front locals_at locals_width (omega arith)
        ∙ part_back (start_now e f) (ports_now e f port_count ++ locals) ports_at (port_width * port_count) locals_width start_length
        ∙ part_last (ports_now e f port_count) locals (port_width * port_count) locals_width ports_length locals_length

    abbrev room : BlobRoom
    room = e.blob_room

    module _ (i : ℕ) (l : i < path_count) where
      abbrev gap : ℕ
      gap = path_blobs_at - before_blobs e

      path_opening : Opening (old i l) 0 (path_now e f i) 0 (before_blobs e) gap (path_width_in e)
      unfolding path_now
      path_opening =
          let long : length (front i l) ≡ path_width_in e + gap = path_front i l ∙ omega (arith, entry_within) in
          opening (old i l) 0 (path_now e f i) 0 (before_blobs e) gap (path_width_in e) (omega (arith, old_length i l)) (omega arith)
          (part_front (front i l) (replicate (blobs_width - blobs_width_in e) 0) 0 (path_width_in e + gap) (omega (arith, long))
          ∙ part_whole (front i l) (path_width_in e + gap) long
          ∙ ap (opened (before_blobs e) gap) (sym (part_whole (old i l) (path_width_in e) (old_length i l))))

      path_behind : part (path_now e f i) (path_blobs_at + blobs_width_in e) (blobs_width - blobs_width_in e) ≡ replicate (blobs_width - blobs_width_in e) 0
      unfolding path_now
      path_behind = part_last (front i l) (replicate (blobs_width - blobs_width_in e) 0) _ _ (path_front i l) (behind_length i l)

      wide : path_width_in e ≡ 1 + (code (path_form_in e)).width
      wide = omega arith

      path_empties : zeros (path_width_in e) (part (old i l) 0 (path_width_in e)) ≡ zeros path_width (part (path_now e f i) 0 path_width)
      unfolding path_now
      path_empties =
          let z : ℕ = blobs_width - blobs_width_in e in
          let all : path_blobs_at + blobs_width_in e + z ≡ path_width = omega (arith, blobs_within) in
          let long : path_width_in e + gap ≡ path_blobs_at + blobs_width_in e = omega (arith, entry_within) in
          path_opening.empties
          ∙ ap (λ (k : ℕ). zeros k (part (path_now e f i) 0 k)) long
          ∙ ap (zeros (path_blobs_at + blobs_width_in e))
          (part_front (front i l) (replicate z 0) 0 (path_blobs_at + blobs_width_in e) (omega (arith, path_front i l))
          ∙ part_whole (front i l) (path_blobs_at + blobs_width_in e) (path_front i l))
          ∙ sym (zeros_behind (front i l) (path_blobs_at + blobs_width_in e) z (path_front i l))
          ∙ ap₂ (λ (k : ℕ) (b : List ℕ). zeros k b) all (sym (part_whole (path_now e f i) path_width (path_length_lem i l)))

      path_alike : Alike (slot (path_form_in e)) (slot (limited_path room)) (old i l) 0 (path_now e f i) 0
      path_alike =
          let brought = h.path_fields.alike (old i l) (path_now e f i) 0 0 gap (path_width_in e) path_rate_at (omega (arith, entry_within)) path_opening in
          slot_alike (same_byte 1 (old i l) 0 (path_now e f i) 0 (path_opening.before 0 1 (omega arith)) (omega arith))
          (ap (λ (k : ℕ). zeros k (part (old i l) 0 k)) (sym wide)
          ∙ path_empties
          ∙ ap (λ (k : ℕ). zeros k (part (path_now e f i) 0 k)) (sym (limited_width room)))
          (that_alike (record_alike
          (both_alike (same_alike head_form (path_opening.before 1 (code head_form).width (omega arith)))
          (both_alike (field_alike brought.0)
          (both_alike (field_alike brought.1)
          (field_alike (blobs_alike room
          (ap (λ (a : ℕ). part (old i l) a (blobs_width_in e)) (sym (zero-add (before_blobs e)))
          ∙ path_opening.after (blobs_width_in e) (le_refl _)
          ∙ ap (λ (a : ℕ). part (path_now e f i) a (blobs_width_in e)) (omega (arith, entry_within)))
          path_behind)))))))

    pub now_alike : Alike (relay_form_in e) (relay_form_of rate_settings_form port_form (limited_path room)) f bodies_at (tables_now e f) 0
    now_alike =
        record_alike
        (both_alike (field_alike (same_alike (octets_in address_width) (start_opening.before own_at address_width (omega arith))))
        (both_alike (field_alike (same_alike (that time_ok (number_in time_width)) (start_opening.before clock_at time_width (omega arith))))
        (both_alike (field_alike settings_alike)
        (both_alike (field_alike (many_alike port_count no_port (λ i l. moved_alike (port_place i l) (now_port_lem i l) (port_alike i l))))
        (both_alike (field_alike (same_alike (many local_count empty (slot local_form))
        (ap (λ (a : ℕ). part f a locals_width) (omega arith) ∙ sym now_locals)))
        (both_alike (field_alike (many_alike path_count empty (λ i l. moved_alike (place i l) (path_there i l) (path_alike i l))))
        (same_alike back_form
        (ap (λ (a : ℕ). part f a back_width) (omega arith)
        ∙ sym now_back
        ∙ ap (λ (w : ℕ). part (tables_now e f) (paths_at + w * path_count) back_width) (sym (limited_width room))))))))))
      where
        settings_alike : Alike e.rate_settings rate_settings_form f (bodies_at + rate_at) (tables_now e f) rate_at
        settings_alike =
            h.rate_settings.alike f (tables_now e f) bodies_at 0 (ports_at - start_width e) (start_width e) rate_at (omega (arith, settings_within)) start_opening

        port_place : (i : ℕ) (l : i < port_count)
            → part f (bodies_at + rate_at + (code e.rate_settings).width + port_width_in e * i) (port_width_in e) ≡ old_port i l
        port_place i l = ap (λ (a : ℕ). part f (a + port_width_in e * i) (port_width_in e)) (omega arith)

        path_there : (i : ℕ) (l : i < path_count)
            → part (tables_now e f) (paths_at + (code (slot (limited_path room))).width * i) (code (slot (limited_path room))).width ≡ path_now e f i
        path_there i l = ap (λ (w : ℕ). part (tables_now e f) (paths_at + w * i) w) (limited_width room) ∙ now_path_lem i l

        place : (i : ℕ) (l : i < path_count)
            → part f
            (bodies_at + rate_at + (code e.rate_settings).width + port_width_in e * port_count + locals_width + (1 + (code (path_form_in e)).width) * i)
            (1 + (code (path_form_in e)).width)
            ≡ old i l
        place i l = ap₂ (λ (a w : ℕ). part f (a + w * i) w) (omega arith) (sym (wide i l))

    pub now_relay : (code (relay_form_in e)).read f bodies_at ≡ relay_of (tables_now e f)
    unfolding relay_of
    now_relay = now_alike.reads ∙ limited_reads room (tables_now e f)

    now_tested : (code (relay_form_in e)).fine f bodies_at
        ≡ (front_ok (tables_now e f) and records_ok (path_fine e) paths_at path_width path_count (tables_now e f) and back_ok (tables_now e f) links_at)
    now_tested = now_alike.tests ∙ limited_clauses e (tables_now e f)

    -- what keeps an edition's limit keeps today's
    pub now_formed : (code (relay_form_in e)).fine f bodies_at ≡ true → well_formed (tables_now e f) ≡ true
    unfolding records_ok path_fine
    now_formed q =
        let tested = sym now_tested ∙ q in
        let paths = and_left _ _ (and_right _ _ tested) in
        clauses (tables_now e f)
        ∙ and_both (eq-eqb _ table_size now_length)
        (and_both (and_left _ _ tested)
        (and_both (all_intro _ path_count (λ i l. and_left _ _ (all_at _ path_count i paths l))) (and_right _ _ (and_right _ _ tested))))

    pub now_bytes : Bytes f → Bytes (tables_now e f)
    unfolding tables_now front_now start_now ports_now port_now paths_now path_now port_bytes
    now_bytes b =
        append_bytes (front_now e f) (paths_now e f path_count ++ part f (back_place e) back_width) front_bytes
        (append_bytes (paths_now e f path_count) (part f (back_place e) back_width) paths_bytes (part_bytes f (back_place e) back_width b))
      where
        front_bytes : Bytes (front_now e f)
        front_bytes =
            append_bytes (start_now e f) (ports_now e f port_count ++ part f (locals_place e) locals_width)
            (opened_bytes (start_width e) (ports_at - start_width e) _ (part_bytes f bodies_at (start_width e) b))
            (append_bytes (ports_now e f port_count) (part f (locals_place e) locals_width)
            (joined_each_bytes (port_now e f) (λ i. i) port_count
            (λ i l.
            append_bytes (old_port i l) (drop (port_width_in e) (port_bytes fresh_port))
            (part_bytes f (ports_place e + port_width_in e * i) (port_width_in e) b)
            (drop_bytes (port_width_in e) (port_bytes fresh_port) ((lawful port_form).bytes fresh_port fresh_good))))
            (part_bytes f (locals_place e) locals_width b))

        paths_bytes : Bytes (paths_now e f path_count)
        paths_bytes =
            joined_each_bytes (path_now e f) (λ i. i) path_count
            (λ i l.
            append_bytes (front i l) (replicate (blobs_width - blobs_width_in e) 0)
            (opened_bytes (before_blobs e) (path_blobs_at - before_blobs e) _ (part_bytes f (paths_place e + path_width_in e * i) (path_width_in e) b))
            (replicate_bytes (blobs_width - blobs_width_in e) 0 (lit< tt)))

    -- ---- the three parts, as the code tests them
    front_seen : front_ok (tables_now e f) ≡ front_ok (front_now e f)
    front_seen = sym (front_same (tables_now e f)) ∙ ap front_ok now_front

    paths_seen : records_ok (path_fine e) paths_at path_width path_count (tables_now e f) ≡ paths_fine e f path_count
    unfolding records_ok paths_fine
    paths_seen = all_cong _ _ path_count (λ i l. ap (path_fine e) (now_path_lem i l))

    back_seen : back_ok (tables_now e f) links_at ≡ back_ok f (back_place e)
    unfolding back_ok
    back_seen = (lawful back_form).tests (tables_now e f) links_at f (back_place e) now_back

    pub now_clauses : (code (relay_form_in e)).fine f bodies_at ≡ (front_ok (front_now e f) and paths_fine e f path_count and back_ok f (back_place e))
    now_clauses = now_tested ∙ (λ i. front_seen i and paths_seen i and back_seen i)

-- ---- record by record
module _ (e : Edition) (f : List ℕ) where
  pub paths_none : (t : List ℕ) → t ≡ patch t paths_at (paths_now e f 0)
  unfolding paths_now
  paths_none t = records_none (path_now e f) t paths_at

  pub ports_none : (t : List ℕ) → t ≡ patch t ports_at (ports_now e f 0)
  unfolding ports_now
  ports_none t = records_none (port_now e f) t ports_at

  module _ (h : Brings e) (size : tally_place e ≤ length f) where
    pub paths_more : (t : List ℕ) (i : ℕ) → i < path_count → length t ≡ table_size
        → patch (patch t paths_at (paths_now e f i)) (paths_at + path_width * i) (path_now e f i) ≡ patch t paths_at (paths_now e f (i + 1))
    unfolding paths_now
    paths_more t i l long = records_more (path_now e f) path_width path_count (path_length_lem e h f size) t paths_at i l (omega (arith, long))

    pub ports_more : (t : List ℕ) (i : ℕ) → i < port_count → length t ≡ paths_at
        → patch (patch t ports_at (ports_now e f i)) (ports_at + port_width * i) (port_now e f i) ≡ patch t ports_at (ports_now e f (i + 1))
    unfolding ports_now
    ports_more t i l long = records_more (port_now e f) port_width port_count (port_length e h f size) t ports_at i l (omega (arith, long))

    -- the sections before the paths, written over zeros one after the other
    module _ (t : List ℕ) (is : t ≡ start_now e f ++ replicate (paths_at - ports_at) 0) where
      pub zeros_length : length t ≡ paths_at
      zeros_length =
          ap length is
          ∙ length-append (start_now e f) (replicate (paths_at - ports_at) 0)
          ∙ omega (arith, start_length e h f size, length-replicate {A = ℕ} (paths_at - ports_at) 0)

      pub ports_written_length : length (patch t ports_at (ports_now e f port_count)) ≡ paths_at
      ports_written_length =
          patch_length t ports_at (ports_now e f port_count) (omega (arith, zeros_length, ports_length e h f size)) ∙ zeros_length

      pub front_written : patch (patch t ports_at (ports_now e f port_count)) locals_at (part f (locals_place e) locals_width) ≡ front_now e f
      unfolding front_now
      front_written =
          let start = start_length e h f size in
          let ports = ports_length e h f size in
          let locals = locals_length e h f size in
          patch_join t ports_at locals_at (ports_now e f port_count) (part f (locals_place e) locals_width)
          (ap (λ (k : ℕ). ports_at + k) ports) (omega (arith, zeros_length, locals))
          ∙ ap (λ (r : List ℕ). patch r ports_at (ports_now e f port_count ++ part f (locals_place e) locals_width))
          (is ∙ ap (λ (r : List ℕ). start_now e f ++ r) (sym (append-nil (replicate (paths_at - ports_at) 0))))
          ∙ patch_mid (start_now e f) (replicate (paths_at - ports_at) 0) [] (ports_now e f port_count ++ part f (locals_place e) locals_width) ports_at start
          (length-replicate {A = ℕ} (paths_at - ports_at) 0 ∙ sym (simp length-append (omega (arith, ports, locals))))
          ∙ ap (λ (r : List ℕ). start_now e f ++ r) (append-nil (ports_now e f port_count ++ part f (locals_place e) locals_width))

    pub now_written : (t : List ℕ) → length t ≡ table_size
        → patch (patch (patch t 0 (front_now e f)) paths_at (paths_now e f path_count)) links_at (part f (back_place e) back_width) ≡ tables_now e f
    unfolding tables_now
    now_written t long =
        let front = front_length e h f size in
        let paths = paths_length e h f size path_count (le_refl path_count) in
        let back = back_length e h f size in
        patch_three t 0 paths_at links_at (front_now e f) (paths_now e f path_count) (part f (back_place e) back_width)
        (omega (arith, front)) (omega (arith, paths)) (omega (arith, back, long))
        ∙ patch_whole t (front_now e f ++ (paths_now e f path_count ++ part f (back_place e) back_width))
        (simp length-append (omega (arith, front, paths, back, long)))

-- ---- the tally may be any bytes, so the bodies are fine where those of the tables' sections are
pub relay_decides : (e : Edition) (f : List ℕ) → bodies_fine e f ≡ (code (relay_form_in e)).fine f bodies_at
unfolding bodies_fine ◌and◌
relay_decides e f = and_last ((code (relay_form_in e)).fine f bodies_at) refl

-- as the code tests them
pub bodies_clauses : (n : ℕ) (f : List ℕ) → tally_place (numbered n) ≤ length f
    → bodies_fine (numbered n) f
    ≡ (front_ok (front_now (numbered n) f) and paths_fine (numbered n) f path_count and back_ok f (back_place (numbered n)))
bodies_clauses n f size = relay_decides (numbered n) f ∙ now_clauses (numbered n) (each_brings (n - 1)) f size

-- ---- by number
module _ (n : ℕ) where
  pub start_most : start_width (numbered n) ≤ ports_at
  start_most = start_within (numbered n) (each_brings (n - 1))

  pub port_most : port_width_in (numbered n) ≤ port_width
  port_most = port_within (numbered n) (each_brings (n - 1))

  pub before_most : before_blobs (numbered n) ≤ path_blobs_at
  before_most = before_within (numbered n) (each_brings (n - 1))

  pub path_most : path_width_in (numbered n) ≤ path_width
  path_most = omega (arith, before_most, room_narrow (numbered n).blob_room)

  pub path_ends : path_blobs_at + blobs_width_in (numbered n) ≤ path_width
  path_ends = omega (arith, room_narrow (numbered n).blob_room)

  pub blobs_wide : blobs_width_in (numbered n) ≡ 1 + blob_width * most_blobs (numbered n).blob_room
  blobs_wide = room_width (numbered n).blob_room

  -- port i's settings, and path i's record, stand in the file
  pub port_room : (f : List ℕ) → tally_place (numbered n) ≤ length f → (i : ℕ) → i < port_count
      → {w p : ℕ} → w ≡ port_width_in (numbered n) → p ≡ ports_place (numbered n) → p + w * i + w ≤ length f
  port_room f size i l {w} {p} e d =
      let place : w * i ≡ port_width_in (numbered n) * i = ap (λ (k : ℕ). k * i) e in
      omega (arith, port_end (numbered n) (each_brings (n - 1)) f size i l, e, d, place)

  -- what the file has of the first section, written over zeros
  pub start_written : (f t x : List ℕ) → tally_place (numbered n) ≤ length f → t ≡ replicate paths_at 0 → {w : ℕ} → w ≡ start_width (numbered n)
      → x ≡ opened w (length (take (ports_at - 0) (drop 0 t)) - length (take (bodies_at + w - bodies_at) (drop bodies_at f)))
      (take (bodies_at + w - bodies_at) (drop bodies_at f))
      → put_mid 0 (ports_at - 0) t x ≡ start_now (numbered n) f ++ replicate (paths_at - ports_at) 0
  unfolding start_now
  start_written f t x size is e d =
      let lent = ap length (zeros_lent t paths_at ports_at is (omega arith)) ∙ length-replicate {A = ℕ} ports_at 0 in
      ap (put_mid 0 (ports_at - 0) t)
      (d ∙ opened_lent f bodies_at (ports_at - start_width (numbered n)) _ e e (omega (arith, size)) (omega (arith, lent, start_most)))
      ∙ zeros_behind_put t (start_now (numbered n) f) paths_at ports_at is (start_length (numbered n) (each_brings (n - 1)) f size) (omega arith)

  -- what the file has of port i, over a fresh port's settings
  pub port_filled : (f : List ℕ) → tally_place (numbered n) ≤ length f → (i : ℕ) → i < port_count
      → {w p : ℕ} → w ≡ port_width_in (numbered n) → p ≡ ports_place (numbered n) → (t : List ℕ) → t ≡ port_bytes fresh_port
      → patch t 0 (take (p + w * i + w - (p + w * i)) (drop (p + w * i) f)) ≡ port_now (numbered n) f i
  unfolding patch port_now
  port_filled f size i l {w} {p} e d t is =
      let x : List ℕ = old_port (numbered n) (each_brings (n - 1)) f size i l in
      let place : p + w * i ≡ ports_place (numbered n) + port_width_in (numbered n) * i = ap₂ (λ (q k : ℕ). q + k * i) d e in
      let lent : take (p + w * i + w - (p + w * i)) (drop (p + w * i) f) ≡ x = part_range f (p + w * i) w ∙ ap₂ (part f) place e in
      ap₂ (λ (y r : List ℕ). take 0 r ++ (y ++ drop (0 + length y) r)) lent is
      ∙ ap (λ (k : ℕ). x ++ drop k (port_bytes fresh_port)) (zero-add (length x) ∙ old_port_length (numbered n) (each_brings (n - 1)) f size i l)

  pub path_room : (f : List ℕ) → tally_place (numbered n) ≤ length f → (i : ℕ) → i < path_count
      → {w p : ℕ} → w ≡ path_width_in (numbered n) → p ≡ paths_place (numbered n) → p + w * i + w ≤ length f
  path_room f size i l {w} {p} e d =
      let place : w * i ≡ path_width_in (numbered n) * i = ap (λ (k : ℕ). k * i) e in
      omega (arith, path_end (numbered n) (each_brings (n - 1)) f size i l, e, d, place)
