use Prim.Native.Nat.{ℕ, ◌<◌}
use mathlib.Core.Path.{sym, subst, ◌∙◌}
use Rattle.octets.proofs.Bytes.{known_bytes}
use Rattle.numbers.specs.Numbers.{hash_count}
use Rattle.tables.proofs.Whole.{formed}
use Rattle.update.proofs.Steps.{hash_next_within}
use Rattle.act.proofs.StampLaws.{remembered_by, stamp_left}
use borrow.Author.Rules.{rules}
use Rattle.act.proofs.act.Goals as goal

pub next_hash-place-requires : goal.next_hash-place-requires
next_hash-place-requires c = (formed _ c.requires.0.accepted.formed).size

pub remembers-remembered-requires : goal.remembers-remembered-requires
remembers-remembered-requires c =
    let ok = c.requires.0.accepted in
    (record { readable = ok.readable; size = (formed _ ok.formed).size }, c.requires.2)

pub stamp-requires : goal.stamp-requires
stamp-requires c =
    let size = (formed _ c.requires.0.accepted.formed).size in
    let within = subst (λ (k : ℕ). k < hash_count) (sym c.next_hash-place.ensures) (hash_next_within _ c.requires.0.accepted.formed) in
    (search rules, within, c.requires.0.accepted.clock)

pub returns : goal.returns
returns c =
    let left = c.carry_out-verdict.ensures in
    let remembered = c.remembers-remembered.ensures ∙ remembered_by _ _ _ _ c.requires.0.decided in
    let stamped =
    stamp_left _ _ _ c.requires.0.accepted (known_bytes c.args.tables.now c.slice_known-1.given) _ _ _ _ c.requires.1 left.1
    c.next_hash-place.ensures remembered in
    (left.0, c.stamp.ensures ∙ stamped, left.2)
