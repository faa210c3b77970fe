use native.Mathlib.Nat.{add-zero}
use Rattle.codes.proofs.Pieces.{fields_written}
use Rattle.tables.specs.Forms.{rate_entry_form}
use Rattle.update.specs.Written.{rate_bytes}
use native.Mathlib.Omega.{arith}
use Rattle.update.proofs.paths.write_rate.Goals as goal

pub returns : goal.returns
unfolding rate_bytes
returns c =
    let a = c.args in
    let all = fields_written rate_entry_form a.rate a.tables.now a.at (omega (arith, c.requires)) in
    rw (c.write_number_at-2.ensures, c.set_at.ensures, c.write_number_at.ensures)
    (rw (add-zero a.at) at all)
