use Prim.Native.Nat.{ℕ, ◌-◌}
use native.Mathlib.Omega.{arith}
use mathlib.Core.List.{List}
use mathlib.Core.Path.{sym, ap, ap₂, ◌∙◌}
use lib.ListN.{length, replicate, length-replicate}
use Rattle.octets.specs.Part.{part, patch}
use Rattle.octets.proofs.Part.{range_length, part_range}
use Rattle.tables.specs.Places.{ports_at, locals_at, paths_at}
use Rattle.editions.specs.Editions.{numbered, bodies_at}
use Rattle.editions.specs.Steps.{locals_width}
use Rattle.editions.proofs.Alike.{zeros_lent}
use Rattle.editions.proofs.EachBrings.{each_brings}
use Rattle.editions.proofs.EditionLaws.{start_most, start_written, zeros_length, ports_written_length, front_written}
use Rattle.editions.proofs.older.Bodies.write_front.Goals as goal

pub slice_bounds-open-end-2 : goal.slice_bounds-open-end-2
slice_bounds-open-end-2 c =
    let long = ap length c.requires ∙ length-replicate {A = ℕ} paths_at 0 in
    omega (arith, long)

pub open-requires : goal.open-requires
open-requires c =
    let a = c.args in
    let width = c.start_width-start.ensures in
    let most = start_most a.self.edition.number in
    let long = range_length a.self.file.now bodies_at c.start_width-start.result (omega (arith, width, a.self.there)) in
    let lent = zeros_lent a.front.now paths_at ports_at c.requires (omega arith) in
    let zeros = ap length lent ∙ length-replicate {A = ℕ} ports_at 0 in (
      omega (arith, long),
      omega (arith, long, width, most, zeros),
      lent ∙ ap (λ (n : ℕ). replicate n 0) (sym zeros),
    )

pub write_ports-requires : goal.write_ports-requires
write_ports-requires c =
    let a = c.args in
    let f = a.self.file.now in
    let size = a.self.there in
    let written = start_written a.self.edition.number f a.front.now _ size c.requires c.start_width-start.ensures
    c.«open».ensures in
    zeros_length (numbered a.self.edition.number) f (each_brings (a.self.edition.number - 1)) size _ written

pub copy_at-requires : goal.copy_at-requires
copy_at-requires c =
    let a = c.args in
    let f = a.self.file.now in
    let size = a.self.there in
    let written = start_written a.self.edition.number f a.front.now _ size c.requires c.start_width-start.ensures c.«open».ensures in
    let long = ap length c.write_ports.ensures
    ∙ ports_written_length (numbered a.self.edition.number) f (each_brings (a.self.edition.number - 1)) size _ written in
    let locals = range_length f c.locals_place-locals.result locals_width (omega (arith, c.locals_place-locals.ensures, size)) in
    omega (arith, long, locals)

pub returns : goal.returns
returns c =
    let a = c.args in
    let e = numbered a.self.edition.number in
    let f = a.self.file.now in
    let written = start_written a.self.edition.number f a.front.now _ a.self.there c.requires c.start_width-start.ensures
    c.«open».ensures in
    let locals = part_range f c.locals_place-locals.result locals_width
    ∙ ap (λ (k : ℕ). part f k locals_width) c.locals_place-locals.ensures in
    c.copy_at.ensures
    ∙ ap₂ (λ (t b : List ℕ). patch t locals_at b) c.write_ports.ensures locals
    ∙ front_written e f (each_brings (a.self.edition.number - 1)) a.self.there _ written
