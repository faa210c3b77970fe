-- What each call writes: the bytes of the relay after it.
use Prim.Native.Nat.{ℕ, ◌+◌, ◌*◌, ◌≤◌, ◌<◌}
use mathlib.Core.Bool.{Bool, true, false, not}
use mathlib.Core.List.{List}
use mathlib.Core.Path.{◌≡◌, sym, ap, ◌∙◌}
use lib.ListN.{length, get_or, set, replicate}
use borrow.Author.Tests.{eq-eqb, ne_eqb}
use Rattle.octets.specs.Bytes.{Bytes}
use Rattle.octets.specs.Choice.{◌then◌otherwise◌}
use Rattle.octets.specs.Listed.{first_of}
use Rattle.octets.specs.Part.{patch}
use Rattle.octets.proofs.Choice.{then_true, then_false}
use Rattle.numbers.specs.Numbers.{port_count, local_count, path_count}
use Rattle.codes.specs.Form.{code}
use Rattle.notes.specs.Notes.{noted}
use Rattle.rules.specs.Relay.{Slot, empty, Path, make_port, make_rate_settings, with_locals}
use Rattle.rules.specs.View.{view_at, path_place}
use Rattle.rules.specs.Refusals.{clock_bad}
use Rattle.rules.specs.Tests.{is_there}
use Rattle.rules.specs.Writes.{note_path}
use Rattle.rules.specs.Calls.{sets_port, sets_rate, notes_path, rule_of}
use Rattle.notes.specs.declared.Note.{Note}
use Rattle.tables.specs.Forms.{rate_settings_form}
use Rattle.tables.specs.Places.{port_width, local_width, path_width, paths_at, own_at, rate_at, ports_at, locals_at, table_size, address_width}
use Rattle.tables.specs.Records.{port_bytes, path_of, slot_bytes, local_bytes}
use Rattle.tables.specs.Layout.{record_at, relay_of, bytes_of, well_formed}
use Rattle.tables.specs.Called.{refused}
use Rattle.tables.proofs.Whole.{again}
use Rattle.tables.proofs.Patches.{patch_rate, patch_port, patch_local}
use Rattle.tables.proofs.Seen.{ports_length, locals_length}
use Rattle.lookup.proofs.Found.{path_found, path_missing}
use Rattle.update.specs.Written.{clock_written, notes_written}
use Rattle.update.proofs.Steps.{clock_step}
use Rattle.update.proofs.Enacted.{path_noted}
use Rattle.settings.specs.Calls.{fresh_on, fresh_ports}
use Rattle.settings.proofs.Zeros.{fresh_writes}

module _ (t : List ℕ) (h : well_formed t ≡ true) (b : Bytes t) where
  pub port_set_lem : (port : ℕ) (on : Bool) (mode size : ℕ) → port < port_count
      → patch t (ports_at + port_width * port) (port_bytes (make_port on mode size)) ≡ bytes_of ((rule_of (sets_port port on mode size)).after (relay_of t))
  unfolding rule_of
  port_set_lem port on mode size l =
      ap (λ (x : List ℕ). patch x (ports_at + port_width * port) (port_bytes (make_port on mode size))) (sym (again t b h))
      ∙ patch_port (relay_of t) port (make_port on mode size) (ports_length t) l

  pub rate_set : (target grace penalty : ℕ)
      → patch t rate_at ((code rate_settings_form).write (make_rate_settings target grace penalty))
      ≡ bytes_of ((rule_of (sets_rate target grace penalty)).after (relay_of t))
  unfolding rule_of
  rate_set target grace penalty =
      ap (λ (x : List ℕ). patch x rate_at ((code rate_settings_form).write (make_rate_settings target grace penalty))) (sym (again t b h))
      ∙ patch_rate (relay_of t) (make_rate_settings target grace penalty)

  -- at a place that a search gave
  pub local_set : (new : Slot (List ℕ)) (place found : ℕ) → place ≡ found → place < local_count
      → patch t (locals_at + local_width * place) (slot_bytes local_width local_bytes new) ≡ bytes_of (with_locals (set (relay_of t).locals found new) (relay_of t))
  local_set new place found e l =
      ap (λ (x : List ℕ). patch x (locals_at + local_width * place) (slot_bytes local_width local_bytes new)) (sym (again t b h))
      ∙ patch_local (relay_of t) place new (locals_length t) l
      ∙ ap (λ (k : ℕ). bytes_of (with_locals (set (relay_of t).locals k new) (relay_of t))) e

-- ---- a note: 5, 12
module _ (t : List ℕ) (note : Note) (to : List ℕ) (clock : ℕ) where
  abbrev note_refusal : ℕ
  note_refusal = first_of ((rule_of (notes_path note to clock)).rows (relay_of t)) 0

  pub note_early : clock_bad (relay_of t) clock ≡ true → note_refusal ≡ 5
  unfolding rule_of first_of
  note_early bad = then_true _ _ bad

  -- at the place where the search for the path ended
  module _ (place : ℕ) (e : place ≡ path_place clock (relay_of t) to) where
    pub note_nowhere : clock_bad (relay_of t) clock ≡ false → path_count ≤ place → note_refusal ≡ 12
    unfolding rule_of first_of is_there
    note_nowhere fine l = then_false _ _ fine ∙ then_true _ _ (ap (λ (s : Slot Path). not (is_there s)) (path_missing t clock to place e l))

    module _ (l : place < path_count) where
      pub note_accepted : clock_bad (relay_of t) clock ≡ false → note_refusal ≡ 0
      unfolding rule_of first_of is_there
      note_accepted fine = then_false _ _ fine ∙ then_false _ _ (ap (λ (s : Slot Path). not (is_there s)) (path_found t clock to place e l))

      -- by the notes that were read there
      pub note_set : well_formed t ≡ true → Bytes t → (u w : List ℕ)
          → u ≡ notes_written t place (noted note (path_of (record_at paths_at path_width t place)).notes) → w ≡ clock_written u clock
          → w ≡ bytes_of ((rule_of (notes_path note to clock)).after (relay_of t))
      unfolding rule_of view_at
      note_set h b u w q1 q2 =
          let there = ap (λ (k : ℕ). get_or (relay_of t).paths k empty) e ∙ path_found t clock to place e l in
          clock_step (note_path note to clock (relay_of t)) (path_noted t b h note _ to clock place u l e there q1) clock q2

-- ---- a fresh relay
module _ (t own : List ℕ) where
  pub fresh_refused : (length t ≡ table_size → ⊥) → fresh_on t own ≡ refused 7 t
  unfolding fresh_on ◌then◌otherwise◌
  fresh_refused n = rw (ne_eqb (length t) table_size n)

  pub fresh_done : length t ≡ table_size → length own ≡ address_width
      → fresh_on t own ≡ refused 0 (patch (patch (replicate (length t) 0) own_at own) ports_at fresh_ports)
  unfolding fresh_on ◌then◌otherwise◌
  fresh_done e l = rw (eq-eqb (length t) table_size e) (ap (refused 0) (sym (fresh_writes (length t) own e l)))
