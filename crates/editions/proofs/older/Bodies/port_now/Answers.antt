use native.Mathlib.Omega.{arith}
use mathlib.Core.Path.{refl, ◌∙◌}
use borrow.Author.Rules.{rules}
use Rattle.octets.specs.BigEndian.{big_endian}
use Rattle.octets.specs.Choice.{◌then◌otherwise◌}
use Rattle.tables.specs.Records.{port_bytes, mark_of}
use Rattle.editions.proofs.EditionLaws.{port_most, port_room, port_filled}
use Rattle.octets.proofs.Part.{range_length}
use Rattle.editions.proofs.older.Bodies.port_now.Goals as goal

pub overflow_mul-at : goal.overflow_mul-at
overflow_mul-at c =
    let a = c.args in
    let room = port_room a.self.edition.number a.self.file.now c.args.self.there a.i c.requires
    c.port_width-width.ensures c.ports_place.ensures in
    search rules

pub overflow_add-at : goal.overflow_add-at
overflow_add-at c =
    let a = c.args in
    let room = port_room a.self.edition.number a.self.file.now c.args.self.there a.i c.requires
    c.port_width-width.ensures c.ports_place.ensures in
    search rules

pub overflow_add-at-2 : goal.overflow_add-at-2
overflow_add-at-2 c =
    let a = c.args in
    let room = port_room a.self.edition.number a.self.file.now c.args.self.there a.i c.requires
    c.port_width-width.ensures c.ports_place.ensures in
    search rules

pub slice_bounds-copy_at-end-2 : goal.slice_bounds-copy_at-end-2
slice_bounds-copy_at-end-2 c =
    let a = c.args in
    let room = port_room a.self.edition.number a.self.file.now c.args.self.there a.i c.requires
    c.port_width-width.ensures c.ports_place.ensures in
    search rules

pub copy_at-requires : goal.copy_at-requires
copy_at-requires c =
    let a = c.args in
    let room = port_room a.self.edition.number a.self.file.now c.args.self.there a.i c.requires
    c.port_width-width.ensures c.ports_place.ensures in
    let long = range_length a.self.file.now _ c.port_width-width.result room in
    let most = port_most a.self.edition.number in
    omega (arith, long, most, c.port_width-width.ensures)

pub returns : goal.returns
unfolding port_bytes mark_of big_endian ◌then◌otherwise◌
returns c =
    let a = c.args in
    c.copy_at.ensures
    ∙ port_filled a.self.edition.number a.self.file.now c.args.self.there a.i c.requires
    c.port_width-width.ensures c.ports_place.ensures _ refl
