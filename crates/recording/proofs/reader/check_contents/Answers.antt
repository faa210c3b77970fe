use mathlib.Core.Path.{sym, ap, ◌∙◌}
use Prim.Native.Nat.{◌≤◌}
use lib.ListN.{length}
use native.Mathlib.Omega.{arith}
use Rattle.octets.proofs.Bytes.{known_bytes}
use Rattle.recording.specs.Shape.{entry_place, count_of}
use Rattle.recording.specs.Format.{head_width}
use Rattle.recording.proofs.ShapeLaws.{length_lt}
use Rattle.recording.proofs.ReadLaws.{passed_none, passed_more, passed_lt, passed_wrong, ended_wrong, ended_word, ended_taken}
use Rattle.recording.proofs.reader.check_contents.Goals as goal

pub loop-i-init : goal.loop-i-init
loop-i-init c =
    passed_none c.args.file.now c.entry_place-place.result (c.entry_place-place.ensures ∙ ap (entry_place head_width) c.requires.0)

pub returns-then-offset_of-place : goal.returns-then-offset_of-place
returns-then-offset_of-place c =
    sym (passed_wrong c.loop-i.invariant (omega (arith, c.requires.0, c.loop-i-test.true)) (λ q. c.if-offset_of-place.true (c.offset_of.ensures ∙ q)))

pub overflow_add-place : goal.overflow_add-place
overflow_add-place c =
    let f = c.args.file.now in
    let b = known_bytes f c.type_inv.file in
    let n = c.requires.0 in
    let whole : entry_place head_width (count_of f) ≤ length f = omega (arith, c.requires.1) in
    let long = length_lt head_width f c.loop-i.i b (omega (arith, c.loop-i-test.true)) in
    record { fits = omega (arith, passed_lt c.loop-i.invariant b whole, c.length_of-place.ensures, c.requires.2, c.loop-i-test.true) }

pub loop-i-preserved : goal.loop-i-preserved
loop-i-preserved c =
    rw (c.word_of-words.ensures, c.length_of-place.ensures)
    (passed_more c.loop-i.invariant (omega (arith, c.requires.0, c.loop-i-test.true)) (sym c.offset_of.ensures ∙ c.if-offset_of-place.false))

pub returns-then-place-file : goal.returns-then-place-file
returns-then-place-file c = sym (ended_wrong c.loop-i.invariant (omega (arith, c.requires.0, c.loop-i-test.false)) c.if-place-file.true)

pub returns-then-words-gt1 : goal.returns-then-words-gt1
returns-then-words-gt1 c =
    sym (ended_word c.loop-i.invariant (omega (arith, c.requires.0, c.loop-i-test.false)) c.if-place-file.false c.if-words-gt1.true)

pub returns : goal.returns
returns c =
    sym (ended_taken c.loop-i.invariant (omega (arith, c.requires.0, c.loop-i-test.false)) c.if-place-file.false c.if-words-gt1.false)
