use mathlib.Core.Path.{sym, ap, ◌∙◌}
use Prim.Native.Nat.{◌+◌, ◌≤◌}
use native.Mathlib.Nat.{le_antisymm}
use lib.ListN.{length}
use Rattle.octets.specs.Index.{all_below}
use Rattle.octets.proofs.Bytes.{known_bytes}
use Rattle.recording.specs.Shape.{entry_place, item_width}
use Rattle.recording.proofs.ShapeLaws.{length_lt}
use Rattle.saved.specs.File.{head_width}
use Rattle.saved.proofs.LoadLaws.{stands, other_count, contents_right, passed_none, passed_more, passed_lt, passed_wrong}
use native.Mathlib.Omega.{arith}
use Rattle.saved.proofs.loading.contents_wrong.Goals as goal

pub returns-then-count-ne-BODY_COUNT : goal.returns-then-count-ne-BODY_COUNT
returns-then-count-ne-BODY_COUNT c = sym (other_count c.args.file.now (λ q. c.if-count-ne-BODY_COUNT.true (c.count.ensures ∙ q)))

pub loop-i-init : goal.loop-i-init
loop-i-init c = passed_none c.args.file.now (sym c.count.ensures ∙ c.if-count-ne-BODY_COUNT.false)

pub offset_of-requires : goal.offset_of-requires
offset_of-requires c = omega (arith, c.requires, c.loop-i.invariant.count, c.loop-i-test.true)

pub returns-then-offset_of-place : goal.returns-then-offset_of-place
returns-then-offset_of-place c =
    sym (passed_wrong c.loop-i.invariant c.loop-i-test.true (λ q. c.if-offset_of-place.true (c.offset_of.ensures ∙ q)))

pub length_of-place-requires : goal.length_of-place-requires
length_of-place-requires c = omega (arith, c.requires, c.loop-i.invariant.count, c.loop-i-test.true)

pub overflow_add-place : goal.overflow_add-place
overflow_add-place c =
    let f = c.args.file.now in
    let b = known_bytes f c.type_inv.file in
    let i = c.loop-i.i in
    let inside : entry_place head_width i + item_width head_width ≤ length f = omega (arith, c.requires, c.loop-i.invariant.count, c.loop-i-test.true) in
    let long = length_lt head_width f i b inside in
    record { fits = omega (arith, passed_lt c.loop-i.invariant b inside, c.length_of-place.ensures, c.loop-i-test.true) }

pub loop-i-preserved : goal.loop-i-preserved
loop-i-preserved c =
    rw c.length_of-place.ensures (passed_more c.loop-i.invariant c.loop-i-test.true (sym c.offset_of.ensures ∙ c.if-offset_of-place.false))

pub returns : goal.returns
returns c =
    let f = c.args.file.now in
    let p = c.loop-i.invariant in
    sym (contents_right f p.count (ap (all_below (stands f)) (sym (le_antisymm p.within c.loop-i-test.false)) ∙ p.offsets))
