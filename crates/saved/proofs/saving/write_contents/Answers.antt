use mathlib.Core.Path.{ap, ap₂, ◌∙◌}
use mathlib.Core.List.{List}
use Prim.Native.Nat.{ℕ}
use native.Mathlib.Nat.{le_antisymm}
use Rattle.octets.specs.Part.{patch}
use Rattle.recording.specs.Shape.{entry_place, contents_start}
use Rattle.recording.proofs.Sums.{sum_none, sum_more}
use Rattle.editions.specs.Editions.{edition_at, current, width_at}
use Rattle.saved.specs.File.{head_width}
use Rattle.saved.specs.Steps.{entry_bytes, contents_bytes}
use Rattle.tables.specs.Forms.{today}
use Rattle.editions.proofs.Widths.{width_within}
use Rattle.saved.proofs.SaveLaws.{contents_none, contents_more}
use native.Mathlib.Omega.{arith}
use Rattle.saved.proofs.saving.write_contents.Goals as goal

pub loop-i-init : goal.loop-i-init
loop-i-init c = (omega (arith, sum_none (width_at current)), contents_none c.args.room.now)

pub write_entry-requires : goal.write_entry-requires
write_entry-requires c = (c.loop-i-test.true, omega (arith, c.requires, c.loop-i.auto.room))

pub overflow_add-offset : goal.overflow_add-offset
overflow_add-offset c =
    let i = c.loop-i.i in
    let width = c.width_of-offset.ensures ∙ ap (λ (n : ℕ). width_at (edition_at n) i) c.current.ensures in
    let within = width_within today i c.loop-i-test.true in
    record { fits = omega (arith, width, c.loop-i.invariant.0) }

pub loop-i-preserved : goal.loop-i-preserved
loop-i-preserved c =
    let i = c.loop-i.i in
    let offset = c.loop-i.invariant.0 in
    let width = c.width_of-offset.ensures ∙ ap (λ (n : ℕ). width_at (edition_at n) i) c.current.ensures in
    let more = contents_more c.args.room.now i (omega (arith, c.requires, c.loop-i-test.true)) in
    let entry = ap₂ (λ (r : List ℕ) (k : ℕ). patch r (entry_place head_width i) (entry_bytes k i)) c.loop-i.invariant.1 offset in
    (omega (arith, offset, width, sum_more (width_at current) i), c.write_entry.ensures ∙ entry ∙ more)

pub returns : goal.returns
returns c =
    c.loop-i.invariant.1
    ∙ ap (λ (k : ℕ). patch c.args.room.now contents_start (contents_bytes k))
    (le_antisymm (omega (arith, c.loop-i.auto.i-end)) c.loop-i-test.false)
