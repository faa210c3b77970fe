use mathlib.Core.Path.{sym, ap, ap₂, ◌∙◌}
use mathlib.Core.Bool.{not}
use Prim.Native.Nat.{ℕ, ◌+◌, ◌≤◌}
use native.Mathlib.Omega.{arith}
use lib.Dec.{eqb}
use lib.ListN.{length}
use borrow.Author.Tests.{lt-ltb}
use Rattle.octets.proofs.Bytes.{known_bytes}
use Rattle.recording.specs.Shape.{entry_place, length_of, sum_below}
use Rattle.recording.proofs.ShapeLaws.{count_lt}
use Rattle.saved.specs.File.{head_width}
use Rattle.saved.proofs.LoadLaws.{too_short, cut_short, sum_decides, lengths_most}
use Rattle.saved.proofs.loading.length_wrong.Goals as goal

pub returns-then-file-lt-CONTENTS_START : goal.returns-then-file-lt-CONTENTS_START
returns-then-file-lt-CONTENTS_START c = sym (too_short c.args.file.now c.if-file-lt-CONTENTS_START.true)

pub entry_place-at-requires : goal.entry_place-at-requires
entry_place-at-requires c =
    let f = c.args.file.now in
    omega (arith, count_lt f (known_bytes f c.type_inv.file), c.count-n.ensures)

pub returns-then-file-at : goal.returns-then-file-at
returns-then-file-at c =
    lt-ltb _ _ c.if-file-at.true
    ∙ sym (cut_short c.args.file.now (omega (arith, c.if-file-at.true, c.entry_place-at.ensures, c.count-n.ensures)))

pub lengths_sum-requires : goal.lengths_sum-requires
lengths_sum-requires c =
    let f = c.args.file.now in
    let few = count_lt f (known_bytes f c.type_inv.file) in
    (omega (arith, c.if-file-at.false, c.entry_place-at.ensures), omega (arith, c.count-n.ensures))

pub overflow_add-result : goal.overflow_add-result
overflow_add-result c =
    let f = c.args.file.now in
    let b = known_bytes f c.type_inv.file in
    let n = c.count-n.result in
    let inside : entry_place head_width n ≤ length f = omega (arith, c.if-file-at.false, c.entry_place-at.ensures) in
    let few = count_lt f b in
    record { fits = omega (arith, lengths_most f n b inside, c.lengths_sum.ensures, c.entry_place-at.ensures, c.count-n.ensures) }

pub returns-else-file-at : goal.returns-else-file-at
returns-else-file-at c =
    let f = c.args.file.now in
    let n = c.count-n.ensures in
    ap₂ (λ (p q : ℕ). not (eqb (p + q) (length f)))
    (c.entry_place-at.ensures ∙ ap (entry_place head_width) n) (c.lengths_sum.ensures ∙ ap (sum_below (length_of head_width f)) n)
    ∙ sym (sum_decides f)
