-- in two parts, the first of k bytes
use Prim.Native.Nat.{ℕ, ◌+◌, ◌-◌, ◌%◌, ◌≤◌}
use native.Mathlib.Nat.{zero-add}
use mathlib.Core.List.{List, ◌++◌}
use mathlib.Core.Path.{◌≡◌, sym, ap, ◌∙◌}
use native.Mathlib.Omega.{arith}
use lib.ListN.{length}
use Rattle.octets.specs.Part.{part, patch}
use Rattle.octets.proofs.Part.{part_length, part_split, part_whole, patch_join}
use Rattle.tables.specs.Places.{table_size}
use Rattle.saved.specs.File.{bodies_at}
use Rattle.saved.proofs.saving.copy_tables.Goals as goal

in_two : (room tables : List ℕ) (k : ℕ) → length tables ≡ table_size → k + (table_size - k) ≡ table_size → bodies_at + table_size ≤ length room
    → patch (patch room bodies_at (part tables 0 k)) (bodies_at + k) (part tables k (table_size - k)) ≡ patch room bodies_at tables
in_two room tables k size split fits =
    patch_join room bodies_at (bodies_at + k) (part tables 0 k) (part tables k (table_size - k))
    (ap (λ (n : ℕ). bodies_at + n) (part_length tables 0 k (omega arith)))
    (omega (arith, part_length tables k (table_size - k) (omega arith)))
    ∙ ap (patch room bodies_at)
    (ap (λ (n : ℕ). part tables 0 k ++ part tables n (table_size - k)) (sym (zero-add k))
    ∙ sym (part_split tables 0 k (table_size - k)) ∙ ap (part tables 0) split ∙ part_whole tables table_size size)

-- what stands before the next multiple of 16 in the file
abbrev first_part : ℕ
first_part = 16 - bodies_at % 16

pub returns : goal.returns
unfolding part
returns c =
    let a = c.args in
    let room = a.room.now in
    let tables = a.tables.now in
    c.copy_at-2.ensures
    ∙ ap (λ (r : List ℕ). patch r (bodies_at + first_part) (part tables first_part (table_size - first_part)))
    c.copy_at.ensures
    ∙ in_two room tables first_part c.requires.0 (omega arith) c.requires.1
