use Prim.Native.Nat.{ℕ}
use mathlib.Core.Path.{ap, ◌∙◌}
use Rattle.std.specs.Prelude.{Option}
use Rattle.packet.specs.declared.Parts.{Parts}
use Rattle.numbers.specs.Numbers.{return_count}
use Rattle.rules.specs.View.{return_place}
use Rattle.tables.specs.Layout.{relay_of}
use Rattle.lookup.specs.Search.{found}
use Rattle.lookup.proofs.Found.{found_below}
use Rattle.plan.specs.Decided.{arrival_of}
use Rattle.plan.proofs.Judged.{judged_size}
use Rattle.plan.proofs.ReturnLaws.{return_at_lem}
use Rattle.plan.proofs.returns.decide_proof.Goals as goal

pub receipt-requires : goal.receipt-requires
receipt-requires c = (judged_size _ _ c.requires.0, found_below _ c.in-Some.ensures)

pub returns : goal.returns
returns c =
    let answer : Parts → Option ℕ = λ q. found return_count (return_place c.args.arrived.clock (relay_of c.args.tables.now) q.destination) in
    c.receipt.ensures
    ∙ return_at_lem c.args.tables.now (arrival_of c.args.packet.now c.args.arrived) c.requires.1 c.requires.2 (c.in-Some.ensures ∙ ap answer c.parts_of.ensures)
