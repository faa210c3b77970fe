use Prim.Native.Nat.{ℕ, ◌+◌, ◌*◌}
use mathlib.Core.Path.{◌≡◌}
use lib.ListN.{length}
use Rattle.codes.proofs.Pieces.{record_written}
use Rattle.rules.specs.Relay.{make_return}
use Rattle.tables.specs.Forms.{return_form}
use Rattle.tables.specs.Places.{address_width, returns_at, return_width}
use Rattle.tables.specs.Records.{return_bytes}
use Rattle.tables.proofs.All.{exactly_same}
use Rattle.update.specs.Written.{return_written}
use native.Mathlib.Omega.{arith}
use borrow.Author.Rules.{rules}
use Rattle.update.proofs.returns.put_return.Goals as goal

pub returns : goal.returns
unfolding return_written return_bytes
returns c =
    let a = c.args in
    let wide : length a.key ≡ address_width = search rules in
    let at : ℕ = returns_at + return_width * a.place in
    let x = make_return a.key a.arrival a.leaving a.expiry in
    let all = record_written return_form x a.tables.now at (omega (
      arith,
      c.requires.0,
      c.requires.1,
    )) in
    rw (
      c.write_number_at-2.ensures,
      c.write_number_at.ensures,
      c.set_at-3.ensures,
      c.set_at-2.ensures,
      c.copy_at.ensures,
      c.set_at.ensures,
    )
    (rw (rw (exactly_same address_width a.key wide) at all))
