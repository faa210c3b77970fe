use mathlib.Core.Path.{sym, ◌∙◌}
use Rattle.tables.proofs.Whole.{formed}
use Rattle.tables.specs.Layout.{relay_of}
use Rattle.plan.specs.Decided.{arrival_of}
use Rattle.plan.proofs.FirstLaws.{first_decides, first_goes_on}
use Rattle.plan.proofs.decide.Goals as goal

pub first_tests-requires : goal.first_tests-requires
first_tests-requires c =
    let (judged, hashed) = c.requires in
    (record { readable = judged.readable; size = (formed c.args.tables.now judged.formed).size }, hashed)

pub returns-in-Some : goal.returns-in-Some
returns-in-Some c =
    sym (first_decides (relay_of c.args.tables.now) (arrival_of c.args.packet.now c.args.arrived) _ c.in-Some.ensures)

pub decide_onward-requires : goal.decide_onward-requires
decide_onward-requires c =
    (c.requires.0, (first_goes_on (relay_of c.args.tables.now) (arrival_of c.args.packet.now c.args.arrived) c.in_default.ensures).1)

pub returns : goal.returns
returns c =
    c.decide_onward.ensures
    ∙ sym (first_goes_on (relay_of c.args.tables.now) (arrival_of c.args.packet.now c.args.arrived) c.in_default.ensures).0
