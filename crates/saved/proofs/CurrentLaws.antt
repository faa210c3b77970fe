-- The current edition: its bodies but the tally are the tables as they are.
use Prim.Native.Nat.{ℕ, ◌+◌, ◌≤◌}
use native.Mathlib.Omega.{arith}
use mathlib.Core.Bool.{true}
use mathlib.Core.List.{List}
use mathlib.Core.Path.{◌≡◌, sym, ap, ◌∙◌}
use lib.ListN.{length}
use borrow.Author.Tests.{eq-eqb}
use Rattle.octets.specs.Bytes.{Bytes}
use Rattle.octets.specs.Part.{part}
use Rattle.octets.proofs.Index.{and_left, and_yes}
use Rattle.octets.proofs.Part.{part_length}
use Rattle.codes.specs.Form.{code}
use Rattle.codes.proofs.Law.{tests_part}
use Rattle.codes.proofs.Forms.{lawful}
use Rattle.recording.specs.Shape.{edition_of}
use Rattle.tables.specs.Forms.{today, relay_form}
use Rattle.tables.specs.Places.{table_size}
use Rattle.tables.specs.Layout.{bytes_of, well_formed}
use Rattle.editions.specs.Editions.{current_edition, numbered, edition_at, current}
use Rattle.saved.specs.File.{bodies_at}
use Rattle.saved.specs.Load.{held_in}
use Rattle.editions.specs.Steps.{size_in, bodies_fine}
use Rattle.editions.proofs.EditionLaws.{relay_decides}
use Rattle.saved.proofs.LoadLaws.{edition_in, Taken}

module _ (f : List ℕ) (now : edition_of f ≡ current_edition) where
  -- their test is refusal 7's
  pub current_fine : bodies_at + table_size ≤ length f → bodies_fine (edition_in f) f ≡ well_formed (part f bodies_at table_size)
  unfolding well_formed
  current_fine fits =
      ap (λ (n : ℕ). bodies_fine (numbered n) f) now
      ∙ relay_decides today f
      ∙ sym (tests_part (lawful relay_form) f bodies_at)
      ∙ sym (and_yes _ (eq-eqb _ table_size (part_length f bodies_at table_size fits)))

  pub current_size : size_in (edition_in f) ≡ size_in today
  current_size = ap (λ (n : ℕ). size_in (numbered n)) now

  pub current_fits : (size : ℕ) → Taken f size → bodies_at + table_size ≤ length f
  current_fits size t = omega (arith, t.long, current_size)

  -- and of a file that loads they are what a load leaves
  pub current_held : (size : ℕ) → Taken f size → Bytes f → part f bodies_at table_size ≡ bytes_of (held_in f).0
  unfolding held_in bytes_of
  current_held size t b =
      let fine : (code current).fine f bodies_at ≡ true = ap (λ (n : ℕ). (code (edition_at n)).fine f bodies_at) (sym now) ∙ t.fine in
      sym
      (ap (λ (n : ℕ). bytes_of ((code (edition_at n)).read f bodies_at).0) now
      ∙ (lawful relay_form).again f bodies_at b (current_fits size t) (and_left _ _ fine))
