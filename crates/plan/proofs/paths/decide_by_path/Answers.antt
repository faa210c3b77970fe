use Prim.Native.Nat.{ℕ}
use mathlib.Core.Path.{sym, ap, ◌∙◌}
use Rattle.std.specs.Prelude.{Option}
use Rattle.packet.specs.declared.Parts.{Parts}
use Rattle.numbers.specs.Numbers.{path_count}
use Rattle.rules.specs.View.{path_place, expired_path}
use Rattle.rules.specs.Ways.{no_path}
use Rattle.rules.specs.declared.Blocked.{Blocked}
use Rattle.rules.specs.declared.Reason.TheVariants.{NoWayOn}
use Rattle.tables.specs.Layout.{relay_of}
use Rattle.lookup.specs.Search.{found}
use Rattle.lookup.proofs.Found.{found_below}
use Rattle.plan.specs.Decided.{arrival_of}
use Rattle.plan.specs.declared.Decision.TheVariants.{Drop}
use Rattle.plan.proofs.Judged.{judged_size, judged_reads}
use Rattle.plan.proofs.PathLaws.{path_nowhere, data_at}
use Rattle.plan.proofs.paths.decide_by_path.Goals as goal

pub returns-in_default : goal.returns-in_default
returns-in_default c =
    let (judged, other, kind, proof) = c.requires in
    let two = sym c.type_two.ensures ∙ c.if-not-type_two.false in
    let answer : Parts → Option ℕ = λ q. found path_count (path_place c.args.arrived.clock (relay_of c.args.tables.now) q.destination) in
    let why : Parts → Blocked = λ q. no_path (expired_path c.args.arrived.clock (relay_of c.args.tables.now) q.destination) in
    ap (λ (b : Blocked). Drop (NoWayOn b)) (c.no_path.ensures ∙ ap why c.parts_of.ensures)
    ∙ path_nowhere c.args.tables.now (arrival_of c.args.packet.now c.args.arrived) other kind proof two (judged_reads _ _ judged) (c.in_default.ensures ∙ ap answer c.parts_of.ensures)

pub leave_by-requires : goal.leave_by-requires
leave_by-requires c = (judged_size _ _ c.requires.0, found_below _ c.in-Some.ensures)

pub returns-then-is_data : goal.returns-then-is_data
returns-then-is_data c =
    let (judged, other, kind, proof) = c.requires in
    let two = sym c.type_two.ensures ∙ c.if-not-type_two.false in
    let is = sym c.is_data.ensures ∙ c.if-is_data.true in
    let answer : Parts → Option ℕ = λ q. found path_count (path_place c.args.arrived.clock (relay_of c.args.tables.now) q.destination) in
    c.leave_by.ensures
    ∙ data_at c.args.tables.now (arrival_of c.args.packet.now c.args.arrived) other kind proof two (judged_reads _ _ judged) (c.in-Some.ensures ∙ ap answer c.parts_of.ensures) is

pub request-requires : goal.request-requires
request-requires c = (judged_reads _ _ c.requires.0, found_below _ c.in-Some.ensures)
