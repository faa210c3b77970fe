use Prim.Native.Nat.{ℕ, ◌+◌, ◌-◌, ◌*◌}
use mathlib.Core.List.{List}
use mathlib.Core.Path.{ap, ap₂, ◌∙◌}
use lib.ListN.{length}
use Rattle.octets.specs.Part.{patch}
use native.Mathlib.Nat.{le_antisymm}
use native.Mathlib.Omega.{arith}
use Rattle.codes.proofs.Many.{many_end}
use Rattle.numbers.specs.Numbers.{path_count}
use Rattle.tables.specs.Places.{path_width, paths_at}
use Rattle.editions.specs.Editions.{numbered}
use Rattle.editions.specs.Steps.{paths_now}
use Rattle.editions.proofs.EachBrings.{each_brings}
use Rattle.editions.proofs.EditionLaws.{path_length_lem, paths_none, paths_more}
use Rattle.editions.proofs.older.Bodies.write_paths.Goals as goal

pub loop-i-init : goal.loop-i-init
loop-i-init c =
    let a = c.args in
    paths_none (numbered a.self.edition.number) a.self.file.now a.tables.now

pub copy_at-requires : goal.copy_at-requires
copy_at-requires c =
    let b = c.args.self in
    let i = c.loop-i.i in
    let l = c.loop-i-test.true in
    let wide = ap length c.path_now.ensures ∙ path_length_lem (numbered b.edition.number) (each_brings (b.edition.number - 1)) b.file.now b.there i l in
    omega (arith, wide, c.loop-i.auto.tables, c.requires, many_end path_width path_count i l)

pub loop-i-preserved : goal.loop-i-preserved
loop-i-preserved c =
    let b = c.args.self in
    let i = c.loop-i.i in
    c.copy_at.ensures
    ∙ ap₂ (λ (t r : List ℕ). patch t (paths_at + path_width * i) r) c.loop-i.invariant c.path_now.ensures
    ∙ paths_more (numbered b.edition.number) b.file.now (each_brings (b.edition.number - 1)) b.there c.args.tables.now i c.loop-i-test.true c.requires

pub returns : goal.returns
returns c =
    let b = c.args.self in
    c.loop-i.invariant
    ∙ ap (λ (k : ℕ). patch c.args.tables.now paths_at (paths_now (numbered b.edition.number) b.file.now k))
    (le_antisymm (omega (arith, c.loop-i.auto.i-end)) c.loop-i-test.false)
