use Prim.Native.Nat.{ℕ, ◌+◌, ◌*◌}
use mathlib.Core.Path.{◌≡◌}
use lib.ListN.{length}
use Rattle.codes.proofs.Pieces.{record_written}
use Rattle.rules.specs.Relay.{make_remembered}
use Rattle.tables.specs.Forms.{hash_form}
use Rattle.tables.specs.Places.{digest_width, hashes_at, hash_width}
use Rattle.tables.specs.Records.{hash_bytes}
use Rattle.tables.proofs.All.{exactly_same}
use Rattle.update.specs.Written.{hash_written}
use native.Mathlib.Omega.{arith}
use borrow.Author.Rules.{rules}
use Rattle.update.proofs.hashes.remember.Goals as goal

pub returns : goal.returns
unfolding hash_written hash_bytes
returns c =
    let a = c.args in
    let wide : length a.hash ≡ digest_width = search rules in
    let at : ℕ = hashes_at + hash_width * a.place in
    let m = make_remembered a.hash a.expiry in
    let all = record_written hash_form m a.tables.now at (omega (arith, c.requires.0, c.requires.1)) in
    rw (
      c.write_number_at-2.ensures,
      c.write_number_at.ensures,
      c.copy_at.ensures,
      c.set_at.ensures,
    )
    (rw (rw (exactly_same digest_width a.hash wide) at all))
