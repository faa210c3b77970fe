-- Document 01, "Judging a packet": tests 1 to 13, each under its own name, and document 02's 15 and 16. Test 6's cases are found in Ways.antt. Document 02,
-- wish 9, on test 14: "Show that no accepted packet reaches it and take it out. Its number isn't used again." What it tested is shown of what leaves:
-- Lengths.antt.
use Rattle.std.specs.Prelude.{ℕ, Bool, true, false, not, List, [], eqb, ltb, leb, length}
use Rattle.octets.specs.Index.{◌and◌}
use Rattle.octets.specs.Choice.{◌then◌otherwise◌, ◌or◌, same}
use Rattle.octets.specs.Listed.{Test, ◌gives◌otherwise◌, first_of, any_holds}
use Rattle.packet.specs.Header.{type_two, of_kind_single, of_kind_link, is_data, is_announce, is_link_request, is_proof}
use Rattle.packet.specs.Read.{header_of, parts_of, payload}
use Rattle.packet.specs.Hash.{link_id}
use Rattle.packet.specs.Announce.{emission_of, least_announce, announced_destination}
use Rattle.numbers.specs.Numbers.{port_count, hops_limit, least_link_request, shorter_link_proof, longer_link_proof}
use Rattle.rules.specs.Relay.{Slot, empty, used, Path}
use Rattle.rules.specs.View.{View}
use Rattle.rules.specs.Arrival.{Arrival, header, hops, relay_address, destination, hash, blob, is_link_proof}
use Rattle.rules.specs.Exempt.{exempt}
use Rattle.rules.specs.Blobs.{held, is_among, greatest_emission}
use Rattle.rules.specs.Rate.{rated}
use Rattle.rules.specs.Ways.{Way, everywhere, by_path, along_link, by_return, blocked}
use Rattle.rules.specs.Outgoing.{outgoing, exceeds}
use Rattle.rules.specs.declared.Link.{Link}
use Rattle.rules.specs.declared.Clause.{Clause}
use Rattle.rules.specs.declared.Clause.TheVariants.{TypeTwoProof, TypeTwoOfKindLink, AnnounceNotSingle, AnnounceTooShort, AnnounceOfAnother, RequestOfKindLink, RequestTooShort, LinkProofLength}
use Rattle.rules.specs.declared.Blocked.{Blocked}
use Rattle.rules.specs.declared.Blocked.TheVariants.{NoPath, NoLink, NoReturn}
use Rattle.rules.specs.declared.Reason.{Reason}
use Rattle.rules.specs.declared.Reason.TheVariants.{Replay, NotBetter, RateLimited}

-- 1. Not ours: type 2, not an announce, relay address not our own.
unfoldable pub not_ours : View → Arrival → Bool
not_ours v a = type_two (header a) and not (is_announce (header a)) and not (same (relay_address a) v.own)

-- wish 6: "For a marked path an announce of kind single": its destination has a live path, and that is marked
unfoldable pub is_marked : Slot Path → Bool
is_marked empty = false
is_marked (used p) = p.notes.marked

unfoldable pub for_marked_path : View → Arrival → Bool
for_marked_path v a = is_announce (header a) and of_kind_single (header a) and is_marked (v.path (destination a))

-- 2. Duplicate: equal to a live remembered hash. Wish 2 exempts some packets of links; wish 6: such an announce "skips test 2"
unfoldable pub tested_as_duplicate : View → Arrival → Bool
tested_as_duplicate v a = not (exempt a.bytes) and not (for_marked_path v a)

unfoldable pub duplicate : View → Arrival → Bool
duplicate v a = tested_as_duplicate v a and v.remembered (hash a)

-- 3. Bad form, of a packet's bytes p:
-- type 2 proof;
unfoldable pub type_two_proof : List ℕ → Bool
type_two_proof p = type_two (header_of p) and is_proof (header_of p)

-- any type 2 packet of kind link;
unfoldable pub type_two_of_kind_link : List ℕ → Bool
type_two_of_kind_link p = type_two (header_of p) and of_kind_link (header_of p)

-- announce not of kind single;
unfoldable pub announce_not_single : List ℕ → Bool
announce_not_single p = is_announce (header_of p) and not (of_kind_single (header_of p))

-- announce payload under 148 (180 with the context flag);
unfoldable pub announce_too_short : List ℕ → Bool
announce_too_short p = is_announce (header_of p) and ltb (length (payload p)) (least_announce (header_of p))

-- announce destination not the first 16 of SHA-256(name hash ‖ identity hash);
unfoldable pub announce_of_another : List ℕ → Bool
announce_of_another p = is_announce (header_of p) and not (same (parts_of p).destination (announced_destination (payload p)))

-- link request of kind link,
unfoldable pub request_of_kind_link : List ℕ → Bool
request_of_kind_link p = is_link_request (header_of p) and of_kind_link (header_of p)

-- or payload under 64;
unfoldable pub request_too_short : List ℕ → Bool
request_too_short p = is_link_request (header_of p) and ltb (length (payload p)) least_link_request

-- a link proof whose payload isn't 96 or 99.
unfoldable pub link_proof_length : List ℕ → Bool
link_proof_length p = is_link_proof p and not (eqb (length (payload p)) shorter_link_proof or eqb (length (payload p)) longer_link_proof)

unfoldable pub form_tests : List ℕ → List (Test Clause)
form_tests p =
    type_two_proof p gives TypeTwoProof otherwise
    type_two_of_kind_link p gives TypeTwoOfKindLink otherwise
    announce_not_single p gives AnnounceNotSingle otherwise
    announce_too_short p gives AnnounceTooShort (least_announce (header_of p)) otherwise
    announce_of_another p gives AnnounceOfAnother otherwise
    request_of_kind_link p gives RequestOfKindLink otherwise
    request_too_short p gives RequestTooShort otherwise
    link_proof_length p gives LinkProofLength otherwise
    []

unfoldable pub bad_form : List ℕ → Bool
bad_form p = any_holds (form_tests p)

-- Wish 10: "Bad form names the first failing clause of test 3". It is read of a bad form alone
unfoldable pub failing : List ℕ → Clause
failing p = first_of (form_tests p) TypeTwoProof

-- 4. Own announce: destination local.
unfoldable pub own_announce : View → Arrival → Bool
own_announce v a = is_announce (header a) and v.local (destination a)

-- Data and link requests to a local address, kind link excepted, are delivered here
unfoldable pub delivered_here : View → Arrival → Bool
delivered_here v a = (is_data (header a) or is_link_request (header a)) and not (of_kind_link (header a)) and v.local (destination a)

-- 5. Hops 128 or more.
unfoldable pub too_many_hops : ℕ → Bool
too_many_hops hops = leb hops_limit hops

-- 6. No way on: Ways.antt finds the case
unfoldable pub no_way_on : Way → Bool
no_way_on (everywhere known) = false
no_way_on (by_path p) = false
no_way_on (along_link l) = false
no_way_on (by_return t) = false
no_way_on (blocked why) = true

-- the case. It is read of a blocked way alone
unfoldable pub why_blocked : Way → Blocked
why_blocked (everywhere known) = NoPath
why_blocked (by_path p) = NoPath
why_blocked (along_link l) = NoLink
why_blocked (by_return t) = NoReturn
why_blocked (blocked why) = why

-- 7. Already known: link request whose id is live; link proof for a proved link.
unfoldable pub is_there : {A : Type 0} → Slot A → Bool
is_there empty = false
is_there (used x) = true

unfoldable pub follows_proved_link : Way → Bool
follows_proved_link (everywhere known) = false
follows_proved_link (by_path p) = false
follows_proved_link (along_link l) = l.proved
follows_proved_link (by_return t) = false
follows_proved_link (blocked why) = false

unfoldable pub already_known : View → Arrival → Way → Bool
already_known v a w =
    is_link_request (header a) and is_there (v.link (link_id a.bytes))
    or is_link_proof a.bytes and follows_proved_link w

-- 8. Wrong side.
-- from the answering port with hops = remaining
unfoldable pub from_answering_side : Link → Arrival → Bool
from_answering_side l a = eqb a.port l.answering and eqb (hops a) l.remaining.0

-- from the asking port with hops = taken
unfoldable pub from_asking_side : Link → Arrival → Bool
from_asking_side l a = eqb a.port l.asking and eqb (hops a) l.taken.0

-- a link packet from neither side; a link proof must come from the answering side; an ordinary proof must come in by the record's
-- leaving port
unfoldable pub wrong_side : Arrival → Way → Bool
wrong_side a (everywhere known) = false
wrong_side a (by_path p) = false
wrong_side a (along_link l) =
    from_answering_side l a then false otherwise
    is_link_proof a.bytes or not (from_asking_side l a)
wrong_side a (by_return t) = not (eqb a.port t.leaving)
wrong_side a (blocked why) = false

-- 9. Signature word no, for announces and link proofs.
unfoldable pub not_signed : Arrival → Bool
not_signed a = (is_announce (header a) or is_link_proof a.bytes) and not a.signed

-- wish 6, for a marked path: "tests 10, 11 and 15 aren't made if its emission is at least the greatest stored". Below it all three are made. By test 3
-- the announce is of kind single
unfoldable pub revives : Arrival → Path → Bool
revives a p = p.notes.marked and leb (greatest_emission (held p.blobs)) (emission_of (blob a))

-- a test of an announce and the live path of its destination. It isn't made where there is none, nor by wish 6 where the announce `revives` it
unfoldable pub of_known : Arrival → (Path → Bool) → Way → Bool
of_known a test (everywhere empty) = false
of_known a test (everywhere (used p)) = not (revives a p) and test p
of_known a test (by_path p) = false
of_known a test (along_link l) = false
of_known a test (by_return t) = false
of_known a test (blocked why) = false

-- 10. Replay: the announce's blob is stored in its live path.
abbrev pub is_replay : Arrival → Path → Bool
is_replay a p = is_among (blob a) (held p.blobs)

-- 11. Not better: emission not above the greatest among stored blobs, and hops not below the stored hops.
abbrev pub is_not_better : Arrival → Path → Bool
is_not_better a p = leb (emission_of (blob a)) (greatest_emission (held p.blobs)) and leb p.hops (hops a)

-- 15. Document 02, wish 5, by the rate rule. "A destination with no live path is let through"
abbrev pub is_rate_limited : View → Arrival → Path → Bool
is_rate_limited v a p = (rated v.rate a.clock p.rate).dropped

-- these tests in order; wish 5: "drop 15, tested after 11"
unfoldable pub known_tests : View → Arrival → Way → List (Test Reason)
known_tests v a w =
    of_known a (is_replay a) w gives Replay otherwise
    of_known a (is_not_better a) w gives NotBetter otherwise
    of_known a (is_rate_limited v a) w gives RateLimited otherwise
    []

-- the port to leave by: the path's, which may be the arrival port; from the answering side the asking port, else the answering port; the
-- return record's arrival port. An announce leaves by many, and what is blocked by none: 16 is no port
unfoldable pub leaving_port : Arrival → Way → ℕ
leaving_port a (everywhere known) = port_count
leaving_port a (by_path p) = p.port
leaving_port a (along_link l) = from_answering_side l a then l.asking otherwise l.answering
leaving_port a (by_return t) = t.arrival
leaving_port a (blocked why) = port_count

-- 12. Port off: the port to leave by. Announces skip this.
unfoldable pub port_off : View → Arrival → Way → Bool
port_off v a w = not (is_announce (header a)) and not (v.on (leaving_port a w))

-- 16. Document 02, wish 11: "A packet, as rewritten, too long for the port it would leave by is dropped", "drop 16, after 12". As rewritten: on the last hop it
-- is sixteen bytes shorter than it came in. Announces skip this too: "a spread leaves such ports out"
unfoldable pub too_long_for_port : View → Arrival → Way → Bool
too_long_for_port v a w = not (is_announce (header a)) and exceeds (outgoing v a w) (v.size (leaving_port a w))

-- 13. No room: a new path or link, and no slot empty or expired. It isn't given otherwise.
unfoldable pub no_room : View → Arrival → Way → Bool
no_room v a (everywhere empty) = not v.room_for_path
no_room v a (everywhere (used p)) = false
no_room v a (by_path p) = is_link_request (header a) and not v.room_for_link
no_room v a (along_link l) = false
no_room v a (by_return t) = false
no_room v a (blocked why) = false
