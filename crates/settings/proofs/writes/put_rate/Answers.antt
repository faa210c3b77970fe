use Rattle.codes.proofs.Pieces.{fields_written}
use Rattle.rules.specs.Relay.{make_rate_settings}
use Rattle.tables.specs.Forms.{rate_settings_form}
use Rattle.tables.specs.Places.{rate_at}
use native.Mathlib.Omega.{arith}
use Rattle.settings.proofs.writes.put_rate.Goals as goal

pub returns : goal.returns
returns c =
    let a = c.args in
    rw (c.write_number_at-3.ensures, c.write_number_at-2.ensures, c.write_number_at.ensures)
    (fields_written rate_settings_form (make_rate_settings a.target a.grace a.penalty) a.tables.now rate_at (omega (arith, c.requires)))
