-- Document 01, "Judging a packet": tests in order; the first that holds gives the drop. No table is written here.
use Rattle.std.specs.Prelude.{ℕ, Bool, true, false, List, [], eqb, length}
use Rattle.octets.specs.Part.{patch}
use Rattle.packet.specs.Read.{longest_packet}
use Rattle.octets.specs.Choice.{◌then◌otherwise◌, ◌or◌}
use Rattle.octets.specs.Listed.{Test, ◌gives◌otherwise◌, first_of, ◌each_give◌otherwise◌}
use Rattle.rules.specs.View.{View}
use Rattle.rules.specs.Arrival.{Arrival, hops}
use Rattle.rules.specs.Ways.{Way, everywhere, by_path, along_link, by_return, blocked, way_on}
use Rattle.rules.specs.Tests.{not_ours, duplicate, bad_form, failing, own_announce, delivered_here, too_many_hops, no_way_on, why_blocked, already_known, wrong_side, not_signed, known_tests, leaving_port, port_off, too_long_for_port, no_room}
use Rattle.rules.specs.Outgoing.{spread_ports, outgoing, exceeds}
use Rattle.rules.specs.declared.Reason.{Reason}
use Rattle.rules.specs.declared.Reason.TheVariants.{NotOurs, Duplicate, BadForm, OwnAnnounce, TooManyHops, NoWayOn, AlreadyKnown, WrongSide, NotSigned, PortOff, TooLongForPort, NoRoom}
use Rattle.rules.specs.declared.Verdict.{Verdict}
use Rattle.rules.specs.declared.Verdict.TheVariants.{Drop, Deliver, Forward, Spread, Kept}

-- what is to be done with an accepted packet
pub data Plan : Type 0 where
  dropped : Reason → Plan
  delivered : Plan
  follows : Way → Plan

-- tests 1 to 5; delivery stands at test 4's place
unfoldable pub early_tests : View → Arrival → List (Test Plan)
early_tests v a =
    not_ours v a gives dropped NotOurs otherwise
    duplicate v a gives dropped Duplicate otherwise
    bad_form a.bytes gives dropped (BadForm (failing a.bytes)) otherwise
    own_announce v a gives dropped OwnAnnounce otherwise
    delivered_here v a gives delivered otherwise
    too_many_hops (hops a) gives dropped TooManyHops otherwise
    []

-- tests 12, 16 and 13, on the way that the packet would follow; wish 11: "drop 16, after 12"
abbrev pub leaving_tests : View → Arrival → Way → List (Test Plan)
leaving_tests v a w =
    port_off v a w gives dropped PortOff otherwise
    too_long_for_port v a w gives dropped TooLongForPort otherwise
    no_room v a w gives dropped NoRoom otherwise
    []

-- tests 6 to 13 on it; `known_tests` are 10, 11 and 15
unfoldable pub onward_tests : View → Arrival → Way → List (Test Plan)
onward_tests v a w =
    no_way_on w gives dropped (NoWayOn (why_blocked w)) otherwise
    already_known v a w gives dropped AlreadyKnown otherwise
    wrong_side a w gives dropped WrongSide otherwise
    not_signed a gives dropped NotSigned otherwise
    known_tests v a w each_give dropped otherwise
    leaving_tests v a w

unfoldable pub onward_plan : View → Arrival → Way → Plan
onward_plan v a w = first_of (onward_tests v a w) (follows w)

unfoldable pub plan : View → Arrival → Plan
plan v a = first_of (early_tests v a) (onward_plan v a (way_on v a))

-- if that set is empty or the result exceeds 500, the answer is Kept. Wish 11: the set of the ports that carry it, "and is Kept if none remains". With sizes of
-- at most 500, which row 7 sees to, no port carries a result that exceeds 500
unfoldable pub spread_verdict : ℕ → List ℕ → Verdict
spread_verdict ports packet = eqb ports 0 or exceeds packet longest_packet then Kept otherwise Spread ports (length packet)

-- the answer says drop, deliver, forward (one port), spread (a port set) or kept
unfoldable pub way_verdict : View → Arrival → Way → Verdict
way_verdict v a (everywhere known) = spread_verdict (spread_ports v a) (outgoing v a (everywhere known))
way_verdict v a (by_path p) = Forward (leaving_port a (by_path p)) (length (outgoing v a (by_path p)))
way_verdict v a (along_link l) = Forward (leaving_port a (along_link l)) (length (outgoing v a (along_link l)))
way_verdict v a (by_return t) = Forward (leaving_port a (by_return t)) (length (outgoing v a (by_return t)))
way_verdict v a (blocked why) = Drop (NoWayOn why)

unfoldable pub verdict : View → Arrival → Plan → Verdict
verdict v a (dropped reason) = Drop reason
verdict v a delivered = Deliver
verdict v a (follows w) = way_verdict v a w

-- whether a packet leaves
unfoldable pub leaves : Verdict → Bool
leaves (Drop reason) = false
leaves Deliver = false
leaves (Forward port length) = true
leaves (Spread ports length) = true
leaves Kept = false

-- bytes of the output past the packet, and all of it when nothing leaves, stay
unfoldable pub output_after : View → Arrival → Plan → List ℕ → List ℕ
output_after v a (dropped reason) output = output
output_after v a delivered output = output
output_after v a (follows w) output = leaves (way_verdict v a w) then patch output 0 (outgoing v a w) otherwise output
