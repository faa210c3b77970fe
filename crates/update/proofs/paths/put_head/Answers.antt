use mathlib.Core.Path.{◌≡◌}
use lib.ListN.{length}
use Rattle.update.proofs.PathWrites.{head_written}
use Rattle.tables.specs.Places.{address_width}
use Rattle.tables.proofs.All.{exactly_same}
use native.Mathlib.Omega.{arith}
use borrow.Author.Rules.{rules}
use Rattle.update.proofs.paths.put_head.Goals as goal

pub copy_at-requires : goal.copy_at-requires
copy_at-requires c =
    let wide : length c.args.path.destination ≡ address_width = search rules in
    omega (arith, c.requires)

pub copy_at-requires-2 : goal.copy_at-requires-2
copy_at-requires-2 c =
    let good = c.well_formed.1.1.0 in
    let wide : length c.args.path.next_hop ≡ address_width = search (rules, good) in
    omega (
      arith,
      c.requires,
    )

pub returns : goal.returns
returns c =
    let a = c.args in
    let good = c.well_formed.1.1.0 in
    let to : length a.path.destination ≡ address_width = search (rules, good) in
    let by : length a.path.next_hop ≡ address_width = search (rules, good) in
    let all = head_written a.tables.now a.at a.path (omega (
      arith,
      c.requires,
    )) in
    rw (
      c.write_number_at.ensures,
      c.copy_at-2.ensures,
      c.set_at-3.ensures,
      c.set_at-2.ensures,
      c.copy_at.ensures,
      c.set_at.ensures,
    )
    (rw (exactly_same address_width a.path.destination to, exactly_same address_width a.path.next_hop by) at all)
