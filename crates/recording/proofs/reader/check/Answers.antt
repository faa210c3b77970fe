use mathlib.Core.Path.{sym, ◌∙◌}
use native.Mathlib.Omega.{arith}
use Rattle.octets.proofs.Bytes.{known_bytes}
use Rattle.recording.specs.Shape.{kind_of, edition_of}
use Rattle.recording.proofs.ShapeLaws.{count_lt}
use Rattle.recording.proofs.ReadLaws.{too_long, too_short, contents_cut, length_right, other_kind, other_edition, kind_right, refused_length, refused_kind, contents_decide}
use Rattle.recording.proofs.reader.check.Goals.{then-file-gt-LONGEST_FILE-via-then-file-gt-LONGEST_FILE, then-file-gt-LONGEST_FILE-via-else-file-gt-LONGEST_FILE+then-file-lt-CONTENTS_START, then-file-ne-KIND-via-then-file-ne-KIND, then-file-ne-KIND-via-else-file-ne-KIND+then-file-ne-EDITION}
use Rattle.recording.proofs.reader.check.Goals as goal

pub returns-then-file-gt-LONGEST_FILE : goal.returns-then-file-gt-LONGEST_FILE
returns-then-file-gt-LONGEST_FILE c =
    let f = c.args.file.now in
    sym
    (refused_length f
    (elim c.then-file-gt-LONGEST_FILE.branch [
      | then-file-gt-LONGEST_FILE-via-then-file-gt-LONGEST_FILE w ↦ too_long f w.if-file-gt-LONGEST_FILE.true
      | then-file-gt-LONGEST_FILE-via-else-file-gt-LONGEST_FILE+then-file-lt-CONTENTS_START w ↦ too_short f w.if-file-lt-CONTENTS_START.true
    ]))

pub entry_place-requires : goal.entry_place-requires
entry_place-requires c =
    let f = c.args.file.now in
    omega (arith, count_lt f (known_bytes f c.type_inv.file), c.count-n.ensures)

pub returns-then-file-entry_place : goal.returns-then-file-entry_place
returns-then-file-entry_place c =
    let f = c.args.file.now in
    sym (refused_length f (contents_cut f (omega (arith, c.if-file-entry_place.true, c.entry_place.ensures, c.count-n.ensures))))

pub returns-then-file-ne-KIND : goal.returns-then-file-ne-KIND
unfolding kind_of edition_of
returns-then-file-ne-KIND c =
    let f = c.args.file.now in
    let right = length_right f c.if-file-gt-LONGEST_FILE.false c.if-file-lt-CONTENTS_START.false
    (omega (arith, c.if-file-entry_place.false, c.entry_place.ensures, c.count-n.ensures)) in
    sym
    (refused_kind f right
    (elim c.then-file-ne-KIND.branch [
      | then-file-ne-KIND-via-then-file-ne-KIND w ↦ other_kind f w.if-file-ne-KIND.true
      | then-file-ne-KIND-via-else-file-ne-KIND+then-file-ne-EDITION w ↦ other_edition f w.if-file-ne-KIND.false w.if-file-ne-EDITION.true
    ]))

pub returns : goal.returns
unfolding kind_of edition_of
returns c =
    let f = c.args.file.now in
    let right = length_right f c.if-file-gt-LONGEST_FILE.false c.if-file-lt-CONTENTS_START.false
    (omega (arith, c.if-file-entry_place.false, c.entry_place.ensures, c.count-n.ensures)) in
    c.check_contents.ensures ∙ sym (contents_decide f right (kind_right f c.if-file-ne-KIND.false c.if-file-ne-EDITION.false))
