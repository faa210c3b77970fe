use mathlib.Core.Path.{sym, ap, ◌∙◌}
use Prim.Native.Nat.{◌≤◌}
use native.Mathlib.Omega.{arith}
use Rattle.recording.specs.Writer.{given_start, file_length}
use Rattle.recording.specs.Format.{longest_file}
use Rattle.recording.proofs.WriteLaws.{entry_cut, bodies_differ, add_up_lem, refused_apart, refused_long, refused_many, refused_room, lengths_taken}
use Rattle.recording.proofs.writer.check_lengths.Goals.{then-entries-ne0-via-then-entries-ne0, then-entries-ne0-via-else-entries-ne0+then-n-gt-MOST_ENTRIES, then-entries-ne0-via-else-entries-ne0+else-n-gt-MOST_ENTRIES+then-given_end-bodies}
use Rattle.recording.proofs.writer.check_lengths.Goals as goal

pub returns-then-entries-ne0 : goal.returns-then-entries-ne0
returns-then-entries-ne0 c =
    let g = c.args.entries.now in
    let bodies = c.args.bodies.now in
    let room = c.args.room in
    let n = c.given_count-n.ensures in
    sym
    (elim c.then-entries-ne0.branch [
      | then-entries-ne0-via-then-entries-ne0 w ↦ refused_apart g bodies room (entry_cut g bodies w.if-entries-ne0.true)
      | then-entries-ne0-via-else-entries-ne0+then-n-gt-MOST_ENTRIES w ↦ refused_many g bodies room (omega (arith, n, w.if-n-gt-MOST_ENTRIES.true))
      | then-entries-ne0-via-else-entries-ne0+else-n-gt-MOST_ENTRIES+then-given_end-bodies w ↦
          let end = w.given_end.ensures ∙ ap (given_start g) n in
          refused_apart g bodies room (bodies_differ g bodies w.if-entries-ne0.false (λ q. w.if-given_end-bodies.true (end ∙ q)))
    ])

pub returns-then-length-gt-LONGEST_FILE : goal.returns-then-length-gt-LONGEST_FILE
unfolding file_length
returns-then-length-gt-LONGEST_FILE c =
    let g = c.args.entries.now in
    let bodies = c.args.bodies.now in
    let room = c.args.room in
    sym (refused_long g bodies room (omega (arith, c.given_count-n.ensures, c.entry_place.ensures, c.if-length-gt-LONGEST_FILE.true)))

pub returns-then-room-length : goal.returns-then-room-length
unfolding file_length
returns-then-room-length c =
    let g = c.args.entries.now in
    let bodies = c.args.bodies.now in
    let room = c.args.room in
    let n = c.given_count-n.ensures in
    let at = c.entry_place.ensures in
    let end = c.given_end.ensures ∙ ap (given_start g) n in
    let up = add_up_lem g bodies c.if-entries-ne0.false (sym end ∙ c.if-given_end-bodies.false) in
    let short : file_length g bodies ≤ longest_file = omega (arith, c.if-length-gt-LONGEST_FILE.false) in
    sym (refused_room g bodies room up short (omega (arith, c.if-room-length.true)))

pub returns : goal.returns
unfolding file_length
returns c =
    let g = c.args.entries.now in
    let bodies = c.args.bodies.now in
    let room = c.args.room in
    let n = c.given_count-n.ensures in
    let at = c.entry_place.ensures in
    let end = c.given_end.ensures ∙ ap (given_start g) n in
    let up = add_up_lem g bodies c.if-entries-ne0.false (sym end ∙ c.if-given_end-bodies.false) in
    let short : file_length g bodies ≤ longest_file = omega (arith, c.if-length-gt-LONGEST_FILE.false) in
    sym (lengths_taken g bodies room up short (omega (arith, c.if-room-length.false)))
