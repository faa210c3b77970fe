use Rattle.saved.specs.File.{bodies_at}
use Rattle.tables.specs.Places.{table_size}
use Rattle.octets.proofs.Part.{part_length}
use Rattle.saved.proofs.CurrentLaws.{current_fits, current_held}
use Rattle.saved.proofs.LoadLaws.{taken, has_tables, tables_held}
use Rattle.editions.specs.Editions.{numbered}
use Rattle.editions.specs.Steps.{tally_place, tables_now}
use Rattle.octets.proofs.Bytes.{known_bytes}
use Rattle.octets.specs.Part.{part}
use lib.ListN.{length}
use Prim.Native.Nat.{ℕ, ◌≤◌}
use mathlib.Core.Path.{sym, ap, subst, ◌∙◌}
use native.Mathlib.Omega.{arith}
use Rattle.saved.proofs.loading.write_held.Goals as goal

pub slice_bounds-copy_from_slice-end : goal.slice_bounds-copy_from_slice-end
slice_bounds-copy_from_slice-end c =
    let a = c.args in
    let f = a.file.now in
    let t = taken f (length a.tables.now) c.requires.0 in
    omega (arith, current_fits f (sym c.requires.1 ∙ c.if-edition-eq-EDITION.true) _ t)

pub copy_from_slice-requires : goal.copy_from_slice-requires
unfolding part
copy_from_slice-requires c =
    let a = c.args in
    let f = a.file.now in
    let t = taken f (length a.tables.now) c.requires.0 in
    t.room ∙ sym (part_length f bodies_at table_size (current_fits f (sym c.requires.1 ∙ c.if-edition-eq-EDITION.true) _ t))

pub returns-then-edition-eq-EDITION : goal.returns-then-edition-eq-EDITION
unfolding part
returns-then-edition-eq-EDITION c =
    let a = c.args in
    let f = a.file.now in
    let t = taken f (length a.tables.now) c.requires.0 in
    c.copy_from_slice.ensures.after
    ∙ current_held f (sym c.requires.1 ∙ c.if-edition-eq-EDITION.true) _ t (known_bytes f c.type_inv.file)

pub invariant_of-write_tables : goal.invariant_of-write_tables
invariant_of-write_tables c =
    let a = c.args in
    let f = a.file.now in
    let long = has_tables f (length a.tables.now) (taken f (length a.tables.now) c.requires.0) in
    record { there = subst (λ (n : ℕ). tally_place (numbered n) ≤ length f) (sym c.requires.1) long }

pub write_tables-requires : goal.write_tables-requires
write_tables-requires c =
    let a = c.args in
    (taken a.file.now (length a.tables.now) c.requires.0).room

pub returns : goal.returns
returns c =
    let a = c.args in
    let f = a.file.now in
    let t = taken f (length a.tables.now) c.requires.0 in
    c.write_tables.ensures
    ∙ ap (λ (n : ℕ). tables_now (numbered n) f) c.requires.1
    ∙ tables_held f _ t (known_bytes f c.type_inv.file)
