-- The bytes that leave.
use Rattle.std.specs.Prelude.{ℕ, ◌+◌, ◌*◌, ◌/◌, ◌%◌, Bool, not, List, [], eqb, ltb, length, set}
use Rattle.octets.specs.Index.{◌and◌}
use Rattle.octets.specs.Choice.{◌then◌otherwise◌}
use Rattle.packet.specs.Read.{no_address, header_of, parts_of, payload}
use Rattle.packet.specs.Write.{packet_of}
use Rattle.rules.specs.View.{View}
use Rattle.rules.specs.Arrival.{Arrival}
use Rattle.rules.specs.Ways.{Way, everywhere, by_path, along_link, by_return, blocked}
use Rattle.rules.specs.Answers.{port_set}

-- p are a packet's bytes: the packet under another header and relay address, hops + 1
unfoldable pub rewritten : ℕ → List ℕ → List ℕ → List ℕ
rewritten new_header relay p =
    packet_of
    (record { header = new_header; hops = (parts_of p).hops + 1; relay = relay; destination = (parts_of p).destination; context = (parts_of p).context })
    (payload p)

-- bits 6 and 4 set, low six otherwise as received
unfoldable pub spread_header : ℕ → ℕ
spread_header h = 64 + h / 32 % 2 * 32 + 16 + h % 16

-- the announce is spread: type 2, our own address
unfoldable pub spread_packet : List ℕ → List ℕ → List ℕ
spread_packet own p = rewritten (spread_header (header_of p)) own p

-- longer than a size. Wish 11: a port carries what doesn't exceed its own
unfoldable pub exceeds : List ℕ → ℕ → Bool
exceeds packet size = ltb size (length packet)

-- to all ports on but the arrival port. Wish 11: "A packet, as rewritten, too long for the port it would leave by ..; a spread leaves such ports out"
unfoldable pub spread_ports : View → Arrival → ℕ
spread_ports v a = port_set (λ port. v.on port and not (eqb port a.port) and not (exceeds (spread_packet v.own a.bytes) (v.size port)))

-- stored hops 0: as type 1, header modulo 16. Otherwise type 2, header kept, relay address = next hop
unfoldable pub path_packet : ℕ → List ℕ → List ℕ → List ℕ
path_packet hops next_hop p =
    eqb hops 0
    then rewritten (header_of p % 16) no_address p
    otherwise rewritten (header_of p) next_hop p

-- link packets and proofs are forwarded with hops + 1 and otherwise unchanged
unfoldable pub carried_packet : List ℕ → List ℕ
carried_packet p = set p 1 ((parts_of p).hops + 1)

unfoldable pub outgoing : View → Arrival → Way → List ℕ
outgoing v a (everywhere known) = spread_packet v.own a.bytes
outgoing v a (by_path p) = path_packet p.hops p.next_hop a.bytes
outgoing v a (along_link l) = carried_packet a.bytes
outgoing v a (by_return t) = carried_packet a.bytes
outgoing v a (blocked why) = []
