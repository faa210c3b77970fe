use Prim.Native.Nat.{ℕ, ◌+◌, ◌-◌, ◌*◌}
use mathlib.Core.List.{List}
use mathlib.Core.Path.{ap, ap₂, ◌∙◌}
use lib.ListN.{length}
use Rattle.octets.specs.Part.{patch}
use native.Mathlib.Nat.{le_antisymm}
use native.Mathlib.Omega.{arith}
use Rattle.codes.proofs.Many.{many_end}
use Rattle.numbers.specs.Numbers.{port_count}
use Rattle.tables.specs.Places.{port_width, ports_at}
use Rattle.editions.specs.Editions.{numbered}
use Rattle.editions.specs.Steps.{ports_now}
use Rattle.editions.proofs.EachBrings.{each_brings}
use Rattle.editions.proofs.EditionLaws.{port_length, ports_none, ports_more}
use Rattle.editions.proofs.older.Bodies.write_ports.Goals as goal

pub loop-i-init : goal.loop-i-init
loop-i-init c =
    let a = c.args in
    ports_none (numbered a.self.edition.number) a.self.file.now a.front.now

pub copy_at-requires : goal.copy_at-requires
copy_at-requires c =
    let b = c.args.self in
    let i = c.loop-i.i in
    let l = c.loop-i-test.true in
    let wide = ap length c.port_now.ensures ∙ port_length (numbered b.edition.number) (each_brings (b.edition.number - 1)) b.file.now b.there i l in
    omega (arith, wide, c.loop-i.auto.front, c.requires, many_end port_width port_count i l)

pub loop-i-preserved : goal.loop-i-preserved
loop-i-preserved c =
    let b = c.args.self in
    let i = c.loop-i.i in
    c.copy_at.ensures
    ∙ ap₂ (λ (t r : List ℕ). patch t (ports_at + port_width * i) r) c.loop-i.invariant c.port_now.ensures
    ∙ ports_more (numbered b.edition.number) b.file.now (each_brings (b.edition.number - 1)) b.there c.args.front.now i c.loop-i-test.true c.requires

pub returns : goal.returns
returns c =
    let b = c.args.self in
    c.loop-i.invariant
    ∙ ap (λ (k : ℕ). patch c.args.front.now ports_at (ports_now (numbered b.edition.number) b.file.now k))
    (le_antisymm (omega (arith, c.loop-i.auto.i-end)) c.loop-i-test.false)
