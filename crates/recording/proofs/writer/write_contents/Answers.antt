use mathlib.Core.Path.{refl, sym, ap, ap₂, ◌∙◌}
use Prim.Native.Nat.{ℕ, ◌+◌, ◌<◌}
use mathlib.Core.List.{List}
use native.Mathlib.Omega.{arith}
use native.Mathlib.Nat.{le_antisymm, add-zero, add_assoc}
use Rattle.octets.specs.Part.{patch}
use Rattle.octets.proofs.Bytes.{known_bytes}
use Rattle.recording.specs.Shape.{entry_place, contents_start}
use Rattle.recording.specs.Format.{head_width}
use Rattle.recording.specs.Writer.{given_count}
use Rattle.recording.specs.Steps.{copied_item, copied_items}
use Rattle.recording.proofs.WriteLaws.{given_start_none, given_start_more, given_start_most, given_long, items_none, items_more}
use borrow.Author.Rules.{rules}
use Rattle.recording.proofs.writer.write_contents.Goals as goal

pub loop-i-init : goal.loop-i-init
loop-i-init c =
    let g = c.args.entries.now in
    let at = c.args.at in
    let none = sym (add-zero at) ∙ ap (λ (k : ℕ). at + k) (given_start_none g) in
    record { length = refl; offset = none; written = items_none g at c.args.room.now }

pub write_entry-requires : goal.write_entry-requires
write_entry-requires c =
    let i = c.loop-i-test.true in
    let same = c.loop-i.invariant.length in
    (omega (arith, c.requires.0), omega (arith, c.requires.1), omega (arith, c.requires.3))

pub given_length-offset-requires : goal.given_length-offset-requires
given_length-offset-requires c = omega (arith, c.requires.0, c.loop-i-test.true)

pub overflow_add-offset : goal.overflow_add-offset
overflow_add-offset c =
    let g = c.args.entries.now in
    let i = c.loop-i.i in
    let b = known_bytes g c.type_inv.entries in
    let within : i < given_count g = omega (arith, c.requires.0, c.loop-i-test.true) in
    let most = given_start_most g i b (omega arith) in
    let long = given_long g i b within in
    record { fits = omega (arith, c.given_length-offset.ensures, c.requires.1, c.requires.2, c.loop-i.invariant.offset) }

pub loop-i-preserved : goal.loop-i-preserved
loop-i-preserved c =
    let g = c.args.entries.now in
    let at = c.args.at in
    let i = c.loop-i.i in
    let within : i < given_count g = omega (arith, c.requires.0, c.loop-i-test.true) in
    let offset = c.loop-i.invariant.offset in
    let next = ap₂ (λ (p q : ℕ). p + q) offset c.given_length-offset.ensures ∙ add_assoc at _ _ ∙ ap (λ (k : ℕ). at + k) (given_start_more g i) in
    let item = ap₂ (λ (r : List ℕ) (k : ℕ). patch r (entry_place head_width i) (copied_item g k i)) c.loop-i.invariant.written offset in
    let more = items_more g at c.args.room.now i within (omega (arith, c.requires.3, c.loop-i-test.true)) in
    record { length = search rules; offset = next; written = c.write_entry.ensures ∙ item ∙ more }

pub returns : goal.returns
returns c =
    let a = c.args in
    let all = le_antisymm c.loop-i.auto.i-end c.loop-i-test.false in
    c.loop-i.invariant.written ∙ ap (λ (k : ℕ). patch a.room.now contents_start (copied_items a.entries.now a.at k)) all
