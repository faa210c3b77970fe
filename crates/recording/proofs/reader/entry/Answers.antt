use mathlib.Core.Path.{◌≡◌, sym, ap, ◌∙◌}
use Prim.Native.Nat.{ℕ, ◌+◌, ◌≤◌, ◌<◌}
use lib.ListN.{length, get_or}
use native.Mathlib.Omega.{arith}
use Rattle.octets.specs.Part.{part}
use Rattle.octets.specs.BigEndian.{number}
use Rattle.octets.proofs.Bytes.{known_bytes}
use Rattle.recording.specs.Shape.{entry_place, count_of}
use Rattle.recording.specs.Format.{head_width, clock_width, port_at, entry_width}
use Rattle.recording.specs.Reader.{clock_of, port_of}
use Rattle.recording.proofs.ShapeLaws.{count_lt, offset_lt, length_lt}
use Rattle.recording.proofs.ReadLaws.{not_counted, item_outside, body_outside, stands_there, fields_none, fields_there}
use Rattle.recording.proofs.reader.entry.Goals as goal

pub returns-then-i-count : goal.returns-then-i-count
returns-then-i-count c =
    let f = c.args.file.now in
    let i = c.args.i in
    sym (fields_none f i (not_counted f i (omega (arith, c.count.ensures, c.if-i-count.true))))

pub entry_place-at-requires : goal.entry_place-at-requires
entry_place-at-requires c =
    let f = c.args.file.now in
    omega (arith, count_lt f (known_bytes f c.type_inv.file), c.count.ensures, c.if-i-count.false)

pub overflow_add-at : goal.overflow_add-at
overflow_add-at c =
    let f = c.args.file.now in
    let few = count_lt f (known_bytes f c.type_inv.file) in
    record { fits = omega (arith, c.count.ensures, c.if-i-count.false, c.entry_place-at.ensures) }

pub returns-then-file-at : goal.returns-then-file-at
returns-then-file-at c =
    let f = c.args.file.now in
    let i = c.args.i in
    let counted : i < count_of f = omega (arith, c.count.ensures, c.if-i-count.false) in
    sym (fields_none f i (item_outside f i counted (omega (arith, c.entry_place-at.ensures, c.if-file-at.true))))

pub overflow_add-start : goal.overflow_add-start
overflow_add-start c =
    let f = c.args.file.now in
    let i = c.args.i in
    let b = known_bytes f c.type_inv.file in
    let item : entry_place head_width i + entry_width ≤ length f = omega (arith, c.entry_place-at.ensures, c.if-file-at.false) in
    let start = offset_lt head_width f i b item in
    let long = length_lt head_width f i b item in
    record { fits = omega (arith, c.offset_of-start.ensures, c.length_of-length.ensures) }

pub returns-then-file-start : goal.returns-then-file-start
returns-then-file-start c =
    let f = c.args.file.now in
    let i = c.args.i in
    let counted : i < count_of f = omega (arith, c.count.ensures, c.if-i-count.false) in
    let item : entry_place head_width (i + 1) ≤ length f = omega (arith, c.entry_place-at.ensures, c.if-file-at.false) in
    let past = body_outside f i counted item (omega (arith, c.offset_of-start.ensures, c.length_of-length.ensures, c.if-file-start.true)) in
    sym (fields_none f i past)

pub returns : goal.returns
unfolding clock_of port_of
returns c =
    let f = c.args.file.now in
    let i = c.args.i in
    let counted : i < count_of f = omega (arith, c.count.ensures, c.if-i-count.false) in
    let item : entry_place head_width (i + 1) ≤ length f = omega (arith, c.entry_place-at.ensures, c.if-file-at.false) in
    let there = stands_there f i counted item (omega (arith, c.offset_of-start.ensures, c.length_of-length.ensures, c.if-file-start.false)) in
    let at = c.entry_place-at.ensures in
    let clock : c.number_at.result ≡ clock_of f i = c.number_at.ensures ∙ ap (λ (k : ℕ). number (part f k clock_width)) at in
    let port : get_or f (c.entry_place-at.result + port_at) 0 ≡ port_of f i = ap (λ (k : ℕ). get_or f (k + port_at) 0) at in
    rw (clock, port, c.word_of.ensures, c.offset_of-start.ensures, c.length_of-length.ensures) (sym (fields_there f i there))
