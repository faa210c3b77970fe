use native.Mathlib.Omega.{arith}
use Prim.Native.Nat.{ℕ}
use mathlib.Core.Path.{ap, ◌∙◌}
use Rattle.std.specs.Prelude.{Option}
use Rattle.packet.specs.declared.Parts.{Parts}
use Rattle.numbers.specs.Numbers.{path_count}
use Rattle.rules.specs.View.{path_place}
use Rattle.rules.specs.Tests.{for_marked_path}
use Rattle.tables.specs.Layout.{relay_of}
use Rattle.lookup.specs.Search.{found}
use Rattle.lookup.proofs.Found.{found_below}
use Rattle.outgoing.proofs.Steps.{reading}
use Rattle.plan.specs.Decided.{arrival_of}
use Rattle.plan.proofs.MarkedLaws.{marked_at, marked_nowhere}
use Rattle.plan.proofs.marked.for_marked_path.Goals as goal

pub returns-in_default : goal.returns-in_default
unfolding for_marked_path
returns-in_default c =
    let answer : Parts → Option ℕ = λ q. found path_count (path_place c.args.arrived.clock (relay_of c.args.tables.now) q.destination) in
    let k = marked_nowhere c.args.tables.now (arrival_of c.args.packet.now c.args.arrived) (c.in_default.ensures ∙ ap answer c.parts_of.ensures) in
    grind (arith, reading)

pub path_notes-requires : goal.path_notes-requires
path_notes-requires c = (c.requires.size, found_below _ c.in-Some.ensures)

pub returns : goal.returns
unfolding for_marked_path
returns c =
    let answer : Parts → Option ℕ = λ q. found path_count (path_place c.args.arrived.clock (relay_of c.args.tables.now) q.destination) in
    let k = marked_at c.args.tables.now (arrival_of c.args.packet.now c.args.arrived) (c.in-Some.ensures ∙ ap answer c.parts_of.ensures) in
    grind (arith, reading)
