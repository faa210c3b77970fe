use Prim.Native.Nat.{◌+◌, ◌*◌}
use native.Mathlib.Omega.{arith}
use mathlib.Core.Path.{sym, ap, ◌∙◌}
use mathlib.Core.List.{[], map}
use Rattle.octets.proofs.Part.{range_length}
use Rattle.tables.specs.Records.{exactly}
use Rattle.tables.specs.Layout.{records}
use Rattle.tables.proofs.All.{exactly_same}
use Rattle.tables.proofs.Lent.{record_end}
use Rattle.tables.proofs.Section.{up_none, lent_ok, changed_more, changed_all}
use Rattle.renumbering.specs.Renamed.{with_images, has_ports, with_images_each}
use Rattle.renumbering.proofs.Images.{bytes_lent}
use Rattle.renumbering.proofs.renamed.rename_records.Goals as goal

pub loop-i-init : goal.loop-i-init
loop-i-init c =
    let a = c.args in
    up_none (bytes_lent a.width (has_ports a.map.now a.places.now)) a.at
    (map (with_images a.map.now a.places.now) (records (λ b. b) a.at a.width a.count a.t.now)) a.t.now

pub rename_record-requires : goal.rename_record-requires
rename_record-requires c =
    let a = c.args in
    let s = c.loop-i in
    let ok = has_ports a.map.now a.places.now in
    let inside = record_end a.at a.width a.count s.i c.loop-i-test.true in
    let long = range_length s.t (a.at + a.width * s.i) a.width (omega (arith, inside, s.auto.t, c.requires.1)) in (
      lent_ok (bytes_lent a.width ok) a.at a.count [] (with_images a.map.now a.places.now) a.t.now c.requires.1 s.t s.i c.loop-i-test.true s.invariant c.requires.0,
      omega (arith, long, c.requires.2),
      c.requires.3,
    )

pub loop-i-preserved : goal.loop-i-preserved
loop-i-preserved c =
    let a = c.args in
    let s = c.loop-i in
    let inside = record_end a.at a.width a.count s.i c.loop-i-test.true in
    let long = range_length s.t (a.at + a.width * s.i) a.width (omega (arith, inside, s.auto.t, c.requires.1)) in
    changed_more (bytes_lent a.width (has_ports a.map.now a.places.now)) a.at a.count [] (with_images a.map.now a.places.now) a.t.now c.requires.1
    s.t s.i c.loop-i-test.true s.invariant _
    (sym (exactly_same a.width _ (c.rename_record.auto.b ∙ long)) ∙ ap (exactly a.width) c.rename_record.ensures)

pub returns : goal.returns
unfolding with_images_each
returns c =
    let a = c.args in
    let s = c.loop-i in
    changed_all (bytes_lent a.width (has_ports a.map.now a.places.now)) a.at a.count [] (with_images a.map.now a.places.now) a.t.now c.requires.1
    s.t s.i c.loop-i-test.false s.invariant
