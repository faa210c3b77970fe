use mathlib.Core.Path.{refl, sym, ◌∙◌}
use native.Mathlib.Omega.{arith}
use borrow.Author.Tests.{eq-eqb, ne_eqb}
use Rattle.std.proofs.lemmas.List.{drop_all}
use Rattle.octets.specs.Choice.{◌then◌otherwise◌}
use Rattle.renumbering.specs.Renamed.{images_put, with_images, has_ports}
use Rattle.renumbering.proofs.Images.{place_inside, place_small, next_stand, next_put}
use Rattle.renumbering.proofs.renamed.rename_record.Goals as goal

pub loop-place-init : goal.loop-place-init
unfolding has_ports ◌then◌otherwise◌
loop-place-init c = (rw (ne_eqb _ 0 c.if-b-ne0.true) at c.requires.0, refl)

pub bounds-b-place : goal.bounds-b-place
bounds-b-place c =
    let l = c.loop-place in
    place_inside c.args.map.now c.args.places.now l.b l.place-index c.loop-place-test.true l.invariant.0

pub bounds-map-from : goal.bounds-map-from
bounds-map-from c =
    let l = c.loop-place in
    let small = place_small c.args.map.now c.args.places.now l.b l.place-index c.loop-place-test.true l.invariant.0 in
    omega (arith, small, c.from.ensures, c.requires.2)

pub bounds-b-place-in-loop-place : goal.bounds-b-place-in-loop-place
bounds-b-place-in-loop-place c =
    let l = c.loop-place in
    place_inside c.args.map.now c.args.places.now l.b l.place-index c.loop-place-test.true l.invariant.0

pub loop-place-preserved : goal.loop-place-preserved
loop-place-preserved c =
    let l = c.loop-place in
    let m = c.args.map.now in
    let places = c.args.places.now in
    rw c.from.ensures (
      next_stand m places l.b l.place-index c.loop-place-test.true l.invariant.0,
      sym (next_put m places l.b l.place-index c.loop-place-test.true) ∙ l.invariant.1,
    )

pub returns-after-loop-place : goal.returns-after-loop-place
unfolding with_images images_put ◌then◌otherwise◌
returns-after-loop-place c =
    let l = c.loop-place in
    rw (ne_eqb _ 0 c.if-b-ne0.true) (rw (drop_all l.place-index c.args.places.now c.loop-place-test.false) at l.invariant.1)

pub returns-else-b-ne0 : goal.returns-else-b-ne0
unfolding with_images ◌then◌otherwise◌
returns-else-b-ne0 c = rw (eq-eqb _ 0 c.if-b-ne0.false) refl
