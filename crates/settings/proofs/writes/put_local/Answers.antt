use Prim.Native.Nat.{ℕ, ◌+◌, ◌*◌}
use mathlib.Core.Path.{◌≡◌}
use lib.ListN.{length}
use Rattle.codes.proofs.Pieces.{record_written}
use Rattle.tables.specs.Forms.{local_form}
use Rattle.tables.specs.Places.{address_width, local_width, locals_at}
use Rattle.tables.specs.Records.{local_bytes}
use Rattle.tables.proofs.All.{exactly_same}
use native.Mathlib.Omega.{arith}
use borrow.Author.Rules.{rules}
use Rattle.settings.proofs.writes.put_local.Goals as goal

pub returns : goal.returns
unfolding local_bytes
returns c =
    let a = c.args in
    let wide : length a.address ≡ address_width = search rules in
    let at : ℕ = locals_at + local_width * a.place in
    let all = record_written local_form a.address a.tables.now at (omega (arith, c.requires.0, c.requires.1)) in
    rw (c.copy_at.ensures, c.set_at.ensures) (rw (exactly_same address_width a.address wide) at all)
