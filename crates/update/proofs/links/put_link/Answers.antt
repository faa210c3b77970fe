use native.Mathlib.Omega.{arith}
use borrow.Author.Rules.{rules}
use Prim.Native.Nat.{ℕ, ◌+◌, ◌*◌}
use mathlib.Core.Path.{◌≡◌}
use lib.ListN.{length}
use Rattle.codes.proofs.Pieces.{record_written}
use Rattle.tables.specs.Forms.{link_form}
use Rattle.tables.specs.Places.{address_width, links_at, link_width}
use Rattle.tables.specs.Records.{link_bytes}
use Rattle.tables.proofs.All.{exactly_same}
use Rattle.update.specs.Written.{link_written}
use Rattle.update.proofs.links.put_link.Goals as goal

pub copy_at-requires : goal.copy_at-requires
copy_at-requires c =
    let wide : length c.args.link.id ≡ address_width = search rules in
    omega (
      arith,
      c.requires.0,
      c.requires.1,
    )

pub overflow_add-at-8 : goal.overflow_add-at-8
overflow_add-at-8 c =
    omega (
      arith,
      c.requires.0,
      c.requires.1,
    )

pub write_number_at-requires : goal.write_number_at-requires
write_number_at-requires c =
    omega (
      arith,
      c.requires.0,
      c.requires.1,
    )

pub returns : goal.returns
unfolding link_written link_bytes
returns c =
    let a = c.args in
    let wide : length a.link.id ≡ address_width = let good = c.well_formed.1.1.0 in search (rules, good) in
    let at : ℕ = links_at + link_width * a.place in
    let all = record_written link_form a.link a.tables.now at (omega (
      arith,
      c.requires.0,
      c.requires.1,
    )) in
    rw (
      c.write_number_at.ensures,
      c.set_at-6.ensures,
      c.mark_of.ensures,
      c.set_at-5.ensures,
      c.set_at-4.ensures,
      c.set_at-3.ensures,
      c.set_at-2.ensures,
      c.copy_at.ensures,
      c.set_at.ensures,
    )
    (rw (exactly_same address_width a.link.id wide) at all)
