use mathlib.Core.Path.{◌∙◌}
use Rattle.std.proofs.lemmas.Result.{err_from_is_err_and}
use Rattle.octets.proofs.Bytes.{known_bytes}
use Rattle.octets.proofs.Part.{part_range}
use Rattle.tables.specs.Places.{rate_at}
use Rattle.codes.specs.Form.{code}
use Rattle.tables.specs.Forms.{rate_settings_form}
use Rattle.tables.proofs.Whole.{formed}
use Rattle.rules.specs.Questions.{rate_settings}
use Rattle.status.proofs.Asked.{bytes_refused_7, rate_told_lem}
use borrow.Author.Rules.{rules}
use Rattle.status.proofs.rate_settings.Goals as goal

pub returns-in_err-check_tables : goal.returns-in_err-check_tables
returns-in_err-check_tables c =
    let p = err_from_is_err_and c.from_residual.result c.from_residual.ensures.1 in
    let bad = c.in_err-check_tables.ensures in
    rw (p.1, p.2, bad.0) (bytes_refused_7 _ rate_settings bad.1)

pub slice_bounds-copy_from_slice-end-2 : goal.slice_bounds-copy_from_slice-end-2
slice_bounds-copy_from_slice-end-2 c =
    let size = (formed _ c.in_ok-check_tables.ensures).size in
    search (rules, size)

pub returns : goal.returns
returns c =
    let t = c.args.tables.now in
    rw (c.copy_from_slice.ensures.after ∙ part_range t rate_at (code rate_settings_form).width)
    (rate_told_lem t c.in_ok-check_tables.ensures (known_bytes t c.type_inv.tables))
