use Prim.Native.Nat.{ℕ}
use mathlib.Core.Path.{ap, ◌∙◌}
use Rattle.std.specs.Prelude.{Option}
use Rattle.std.proofs.lemmas.Bool.{not-false}
use Rattle.packet.specs.declared.Parts.{Parts}
use Rattle.numbers.specs.Numbers.{path_count}
use Rattle.rules.specs.View.{path_place}
use Rattle.tables.specs.Layout.{relay_of}
use Rattle.forms.proofs.KindLaws.{announce_long}
use Rattle.lookup.specs.Search.{found}
use Rattle.plan.specs.Decided.{arrival_of}
use Rattle.plan.proofs.Judged.{judged_reads}
use Rattle.plan.proofs.AnnounceLaws.{found_known, announce_nowhere}
use Rattle.plan.proofs.announces.decide_announce.Goals as goal

pub known_path-requires : goal.known_path-requires
known_path-requires c =
    let (judged, good, is) = c.requires in (
      judged_reads _ _ judged,
      found_known c.args.tables.now _ _ c.in-Some.ensures judged.formed,
      announce_long (arrival_of c.args.packet.now c.args.arrived) good is,
    )

pub returns-in-None : goal.returns-in-None
returns-in-None c =
    let answer : Parts → Option ℕ = λ q. found path_count (path_place c.args.arrived.clock (relay_of c.args.tables.now) q.destination) in
    c.new_path.ensures
    ∙ announce_nowhere c.args.tables.now (arrival_of c.args.packet.now c.args.arrived) c.requires.2 (not-false _ c.if-not-arrived.false) (c.in-None.ensures ∙ ap answer c.parts_of.ensures)
