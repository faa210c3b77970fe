-- A note changes one record of a path where it stands: what holds of every path and doesn't look at notes still holds.
use Prim.Native.Nat.{ℕ}
use mathlib.Core.Bool.{Bool}
use mathlib.Core.List.{List}
use mathlib.Core.Path.{◌≡◌, refl, sym, subst}
use lib.ListN.{get_or, set}
use Rattle.rules.specs.Relay.{Slot, empty, used, Path, with_note, Relay, with_paths}
use Rattle.rules.specs.View.{view_at, path_place}
use Rattle.rules.specs.Renumbering.{rename_slot}
use Rattle.rules.specs.Writes.{noted_slot, note_path}
use Rattle.notes.specs.declared.Note.{Note}
use Rattle.notes.specs.declared.Note.TheVariants.{Unresponsive}
use Rattle.rules.proofs.Slots.{Single, Every, every_changed, single_changed}

-- a path that is marked unresponsive
abbrev pub with_path_mark : Path → Path
with_path_mark = with_note Unresponsive

module _ (note : Note) where
  pub noted_is : (s : Slot Path) → noted_slot note s ≡ rename_slot (with_note note) s
  unfolding noted_slot rename_slot
  noted_is empty = refl
  noted_is (used p) = refl

  -- what holds of the paths with any record changed so holds of them with the noted one
  noted_by : (P : List (Slot Path) → Type 0) (destination : List ℕ) (clock : ℕ) (r : Relay)
      → ((place : ℕ) → P (set r.paths place (rename_slot (with_note note) (get_or r.paths place empty)))) → P (note_path note destination clock r).paths
  unfolding note_path with_paths view_at
  noted_by P destination clock r h =
      let place : ℕ = path_place clock r destination in
      subst (λ (s : Slot Path). P (set r.paths place s)) (sym (noted_is (get_or r.paths place empty))) (h place)

  module _ (destination : List ℕ) (clock : ℕ) (r : Relay) (alive : Path → Bool) (lives : (p : Path) → alive (with_note note p) ≡ alive p) where
    pub noted_every : (So : Path → Type 0) → ((p : Path) → So p → So (with_note note p)) → Every alive So r.paths
        → Every alive So (note_path note destination clock r).paths
    noted_every So keeps h =
        noted_by (Every alive So) destination clock r (λ place. every_changed alive So (with_note note) lives keeps r.paths place h)

    pub noted_single : (key : Path → List ℕ) → ((p : Path) → key (with_note note p) ≡ key p) → Single alive key r.paths
        → Single alive key (note_path note destination clock r).paths
    noted_single key keyed h =
        noted_by (Single alive key) destination clock r (λ place. single_changed alive key (with_note note) lives keyed r.paths place h)
