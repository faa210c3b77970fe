-- past row 7, and past row 5
use mathlib.Core.Bool.{false}
use mathlib.Core.Path.{◌≡◌, refl, sym, ap, ◌∙◌}
use Rattle.std.proofs.lemmas.Result.{err_from_is_err_and}
use Rattle.octets.proofs.Bytes.{known_bytes}
use Rattle.notes.specs.Notes.{noted}
use Rattle.rules.specs.Refusals.{clock_bad}
use Rattle.rules.specs.Calls.{notes_path}
use Rattle.tables.specs.Layout.{relay_of}
use Rattle.tables.proofs.Called.{size_of, call_bad, call_refused_lem, call_done}
use Rattle.update.specs.Written.{notes_written}
use Rattle.lookup.proofs.Found.{found_some, found_below, found_none}
use Rattle.settings.proofs.Answered.{note_early, note_nowhere, note_accepted, note_set}
use native.Mathlib.Omega.{arith}
use borrow.Author.Rules.{rules}
use Rattle.settings.proofs.note_path.Goals as goal
use Rattle.settings.proofs.note_path.Goals.{Else-clock_bad}

fine : (c : Else-clock_bad) → clock_bad (relay_of c.args.tables.now) c.args.clock ≡ false
fine c = sym c.clock_bad.ensures ∙ c.if-clock_bad.false

pub returns-in_err-check_tables : goal.returns-in_err-check_tables
returns-in_err-check_tables c =
    let a = c.args in
    let p = err_from_is_err_and c.from_residual.result c.from_residual.ensures.1 in
    let bad = c.in_err-check_tables.ensures in
    rw (p.1, p.2, bad.0) (call_bad (notes_path a.note a.destination a.clock) a.tables.now bad.1)

pub clock_bad-requires : goal.clock_bad-requires
clock_bad-requires c = size_of c.args.tables.now c.in_ok-check_tables.ensures

pub returns-then-clock_bad : goal.returns-then-clock_bad
returns-then-clock_bad c =
    let a = c.args in
    let t = a.tables.now in
    call_refused_lem (notes_path a.note a.destination a.clock) t c.in_ok-check_tables.ensures (known_bytes t c.slice_known-1.given)
    5 (λ e. omega arith) (note_early t a.note a.destination a.clock (sym c.clock_bad.ensures ∙ c.if-clock_bad.true))

pub path_place-requires : goal.path_place-requires
path_place-requires c = size_of c.args.tables.now c.in_ok-check_tables.ensures

pub returns-in_default : goal.returns-in_default
returns-in_default c =
    let a = c.args in
    let t = a.tables.now in
    call_refused_lem (notes_path a.note a.destination a.clock) t c.in_ok-check_tables.ensures (known_bytes t c.slice_known-1.given)
    12 (λ e. omega arith) (note_nowhere t a.note a.destination a.clock _ refl (fine (goal.at.returns-in_default c).Else-clock_bad) (found_none c.in_default.ensures))

pub path_notes-requires : goal.path_notes-requires
path_notes-requires c =
    (size_of c.args.tables.now c.in_ok-check_tables.ensures, found_below _ c.in-Some.ensures)

pub put_notes-requires : goal.put_notes-requires
put_notes-requires c =
    (size_of c.args.tables.now c.in_ok-check_tables.ensures, found_below _ c.in-Some.ensures)

pub set_clock-requires : goal.set_clock-requires
set_clock-requires c =
    let size = size_of c.args.tables.now c.in_ok-check_tables.ensures in
    search rules

pub returns : goal.returns
returns c =
    let a = c.args in
    let t = a.tables.now in
    let (place, within) = found_some c.in-Some.ensures in
    let known = known_bytes t c.slice_known-1.given in
    let now = c.noted-notes.ensures ∙ ap (noted a.note) c.path_notes.ensures in
    let put = c.put_notes.ensures ∙ ap (notes_written t _) now in
    let after = note_set t a.note a.destination a.clock _ place within c.in_ok-check_tables.ensures known _ _ put c.set_clock.ensures in
    call_done (notes_path a.note a.destination a.clock) t c.in_ok-check_tables.ensures
    (note_accepted t a.note a.destination a.clock _ place within (fine (goal.at.returns c).Else-clock_bad)) after
