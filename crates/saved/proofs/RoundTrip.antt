-- Document 02, Wish 4: "Saving and loading give equal tables byte for byte; a file of the current edition that loads is the file that saving those tables
-- would give." For all bytes, tables, tallies and rooms:
--   save_then_load     what is saved into any room that is large enough loads, and gives tables and tally back, byte for byte, whatever stood in the
--                      tables that are lent for it;
--   load_then_save     a file of the current edition that loads is what saving writes, from the tables and the tally that were loaded;
--   loaded_formed, loaded_bytes, loaded_fits
--                      loaded tables pass refusal 7, and are bytes; each counter of the loaded tally fits its four bytes;
--   earlier_refuses    a program of an earlier edition refuses what is saved with 21;
--   older_loads        what an edition can hold, in a file of that edition, loads, and is then in the tables;
--   load_unread        what stood in the tables, and the tally that was given, matter nothing to a load that is not refused.
use Prim.Native.Nat.{ℕ, ◌≤◌, ◌<◌}
use mathlib.Core.Bool.{true, false}
use mathlib.Core.List.{List}
use mathlib.Core.Path.{◌≡◌, sym, ap, ap₂, subst, ◌∙◌}
use lib.ListN.{length, take}
use lib.Seq.{take_at}
use Rattle.octets.specs.Bytes.{Bytes}
use Rattle.octets.specs.Listed.{Test, ◌gives◌otherwise◌, first_of}
use Rattle.octets.specs.Part.{patch}
use Rattle.octets.proofs.Listed.{here, past}
use Rattle.codes.specs.Form.{code}
use Rattle.recording.specs.Shape.{edition_of}
use Rattle.rules.specs.Relay.{Relay}
use Rattle.rules.specs.declared.Tally.{Tally}
use Rattle.rules.proofs.History.{TallyFits}
use Rattle.tables.specs.Places.{table_size}
use Rattle.tables.specs.Layout.{relay_of, bytes_of, well_formed}
use Rattle.tables.proofs.Whole.{again, relay_good}
use Rattle.editions.specs.Editions.{Held, is_known, edition_at, current_edition, current}
use Rattle.saved.specs.File.{file_in, file_of, saved_size}
use Rattle.saved.specs.Save.{save_on}
use Rattle.saved.specs.Load.{length_wrong, kind_wrong_by, load_refusal, held_in, LoadedOn, load_on}
use Rattle.editions.specs.Steps.{tables_now}
use Rattle.saved.proofs.SaveLaws.{not_refused, save_done}
use Rattle.saved.proofs.LoadLaws.{newer_edition, Taken, taken, takes, edition_in, held_relay, held_formed, held_bytes, tables_held, tally_good, load_done, load_number}
use Rattle.saved.proofs.Made.{taken_in, held_in_lem, file_length_lem, made_edition, made_taken, made_whole, made_held, made_bytes, long_now, file_again}

-- ---- saved, then loaded
module _ (t : List ℕ) (tally : Tally) (b : Bytes t) (h : well_formed t ≡ true) (s : TallyFits tally) where
  pub held_right : (code current).Good (relay_of t, tally)
  held_right = (relay_good t b h, (s.total, (s.dropped, (s.delivered, (s.forwarded, (s.spread, s.kept))))))

  pub file_loads : (tables : List ℕ) (old : Tally) → length tables ≡ table_size
      → load_on (file_of (relay_of t, tally)) tables old ≡ record { refusal = 0; tables = t; tally = tally }
  file_loads tables old size =
      let f : List ℕ = file_of (relay_of t, tally) in
      let ok : load_refusal f (length tables) ≡ 0 = ap (load_refusal f) size ∙ takes f table_size (made_taken (relay_of t, tally) held_right) in
      load_done f tables old ok
      ∙ ap (λ (x : Held). record { refusal = 0; tables = bytes_of x.0; tally = x.1 }) (made_held (relay_of t, tally) held_right)
      ∙ ap (λ (u : List ℕ). record { refusal = 0; tables = u; tally = tally }) (again t b h)

  module _ (room : List ℕ) (large : saved_size ≤ length room) where
    -- what stands in the room after the call
    abbrev pub written : List ℕ
    written = take (save_on t tally room).answer.length (save_on t tally room).room

    pub written_file : written ≡ file_of (relay_of t, tally)
    unfolding patch
    written_file =
        rw (save_done t tally room (not_refused t (length room) h large))
        (take_at (file_of (relay_of t, tally)) _ saved_size (file_length_lem (relay_of t, tally)))

    pub written_bytes : Bytes written
    written_bytes = subst Bytes (sym written_file) (made_bytes (relay_of t, tally) held_right)

    pub written_edition : edition_of written ≡ current_edition
    written_edition = ap edition_of written_file ∙ made_edition (relay_of t, tally)

    -- wish 8: "a program of the earlier edition refuses it with 21". Whatever rows such a program has behind the second
    pub earlier_refuses : (own : ℕ) → own < current_edition → (later : List (Test ℕ))
        → first_of (length_wrong written gives 20 otherwise kind_wrong_by own written gives 21 otherwise later) 0 ≡ 21
    earlier_refuses own l later =
        let whole : length_wrong written ≡ false = ap length_wrong written_file ∙ made_whole (relay_of t, tally) held_right in
        past _ 20 _ 0 whole ∙ here _ 21 _ 0 (newer_edition written own (subst (λ (n : ℕ). own < n) (sym written_edition) l))

    pub save_then_load : (tables : List ℕ) (old : Tally) → length tables ≡ table_size
        → load_on written tables old ≡ record { refusal = 0; tables = t; tally = tally }
    save_then_load tables old size = ap (λ (f : List ℕ). load_on f tables old) written_file ∙ file_loads tables old size

-- ---- loaded, then saved
module _ (f tables : List ℕ) (old : Tally) (b : Bytes f) (loads : (load_on f tables old).refusal ≡ 0) where
  ok : load_refusal f (length tables) ≡ 0
  ok = sym (load_number f tables old) ∙ loads

  file_taken : Taken f (length tables)
  file_taken = taken f (length tables) ok

  done : load_on f tables old ≡ record { refusal = 0; tables = bytes_of (held_in f).0; tally = (held_in f).1 }
  done = load_done f tables old ok

  loaded_now : (load_on f tables old).tables ≡ tables_now (edition_in f) f
  loaded_now = ap (λ (x : LoadedOn). x.tables) done ∙ sym (tables_held f (length tables) file_taken b)

  pub loaded_bytes : Bytes (load_on f tables old).tables
  loaded_bytes = subst Bytes (sym loaded_now) (held_bytes f (length tables) file_taken b)

  pub loaded_formed : well_formed (load_on f tables old).tables ≡ true
  loaded_formed = ap well_formed loaded_now ∙ held_formed f (length tables) file_taken

  pub loaded_fits : TallyFits (load_on f tables old).tally
  loaded_fits =
      let g = tally_good f (length tables) file_taken b in
      subst TallyFits (sym (ap (λ (x : LoadedOn). x.tally) done))
      (record {
        total = g.0;
        dropped = g.1.0;
        delivered = g.1.1.0;
        forwarded = g.1.1.1.0;
        spread = g.1.1.1.1.0;
        kept = g.1.1.1.1.1;
      })

  pub loaded_relay : relay_of (load_on f tables old).tables ≡ (held_in f).0
  loaded_relay = ap relay_of loaded_now ∙ sym (held_relay f (length tables) file_taken)

  pub load_then_save : edition_of f ≡ current_edition → (room : List ℕ) → saved_size ≤ length room
      → save_on (load_on f tables old).tables (load_on f tables old).tally room
      ≡ record { answer = record { refusal = 0; length = length f }; room = patch room 0 f }
  load_then_save e room large =
      let t : List ℕ = (load_on f tables old).tables in
      let tally : Tally = (load_on f tables old).tally in
      let same : file_of (relay_of t, tally) ≡ f =
      ap₂ (λ (r : Relay) (c : Tally). file_of (r, c)) loaded_relay (ap (λ (x : LoadedOn). x.tally) done) ∙ file_again f (length tables) b file_taken e in
      save_done t tally room (not_refused t (length room) loaded_formed large)
      ∙ ap₂ (λ (n : ℕ) (g : List ℕ). record { answer = record { refusal = 0; length = n }; room = patch room 0 g })
      (sym (long_now f (length tables) b file_taken e)) same

-- ---- saved in any edition, by a program of its time
module _ (n : ℕ) (known : is_known n ≡ true) (held : Held) (g : (code (edition_at n)).Good held) where
  pub older_loads : (tables : List ℕ) (old : Tally) → length tables ≡ table_size
      → load_on (file_in n held) tables old ≡ record { refusal = 0; tables = bytes_of held.0; tally = held.1 }
  older_loads tables old size =
      let f : List ℕ = file_in n held in
      load_done f tables old (ap (load_refusal f) size ∙ takes f table_size (taken_in n held g known))
      ∙ ap (λ (x : Held). record { refusal = 0; tables = bytes_of x.0; tally = x.1 }) (held_in_lem n held g)

pub load_unread : (f t u : List ℕ) (a b : Tally) → length u ≡ length t → (load_on f t a).refusal ≡ 0 → load_on f u b ≡ load_on f t a
load_unread f t u a b e loads =
    let ok : load_refusal f (length t) ≡ 0 = sym (load_number f t a) ∙ loads in
    load_done f u b (ap (load_refusal f) e ∙ ok) ∙ sym (load_done f t a ok)
