-- what the search for the path answered
use Prim.Native.Nat.{ℕ}
use mathlib.Core.Path.{refl, ap, ◌∙◌}
use Rattle.std.specs.Prelude.{Option}
use Rattle.octets.proofs.Bytes.{known_bytes}
use Rattle.packet.specs.Read.{longest_packet}
use Rattle.packet.specs.declared.Parts.{Parts}
use Rattle.packet.proofs.ReadLaws.{reads_readable}
use Rattle.numbers.specs.Numbers.{path_count}
use Rattle.rules.specs.View.{path_place}
use Rattle.tables.specs.Layout.{relay_of}
use Rattle.tables.proofs.Whole.{formed}
use Rattle.lookup.specs.Search.{found}
use Rattle.lookup.proofs.Found.{found_some, found_below, found_none}
use Rattle.plan.proofs.AnnounceLaws.{found_known}
use Rattle.act.proofs.Stays.{limit_left, limit_none}
use Rattle.act.proofs.drops.limit.Goals as goal

pub parts_of-requires : goal.parts_of-requires
parts_of-requires c = (reads_readable longest_packet _ c.requires.readable).whole

pub path_place-requires : goal.path_place-requires
path_place-requires c = (formed _ c.requires.formed).size

pub dropped_entry-entry-requires : goal.dropped_entry-entry-requires
dropped_entry-entry-requires c = ((formed _ c.requires.formed).size, found_known _ _ _ c.in-Some.ensures c.requires.formed)

pub put_rate-requires : goal.put_rate-requires
put_rate-requires c = ((formed _ c.requires.formed).size, found_below _ c.in-Some.ensures)

pub returns-in-Some : goal.returns-in-Some
returns-in-Some c =
    let answer : Parts → Option ℕ = λ q. found path_count (path_place c.args.arrived.clock (relay_of c.args.tables.now) q.destination) in
    let (e, l) = found_some (c.in-Some.ensures ∙ ap answer c.parts_of.ensures) in
    limit_left _ c.args.arrived _ c.requires.formed (known_bytes c.args.tables.now c.slice_known-1.given) _ e l _ _ c.dropped_entry-entry.ensures
    c.put_rate.ensures

pub returns-in_default : goal.returns-in_default
returns-in_default c =
    let answer : Parts → Option ℕ = λ q. found path_count (path_place c.args.arrived.clock (relay_of c.args.tables.now) q.destination) in
    let none = found_none (c.in_default.ensures ∙ ap answer c.parts_of.ensures) in
    limit_none _ c.args.arrived _ c.requires.formed (known_bytes c.args.tables.now c.slice_known-1.given) _ refl none
