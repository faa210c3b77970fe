-- Packets and a run of calls that Edges and Sanity share: a fresh relay, two ports on, an announce; then data, or a link.
-- Nothing here is a rule: each outcome is what the rules make of the calls.
use Prim.Native.Nat.{ℕ}
use mathlib.Core.Bool.{true}
use mathlib.Core.List.{List, [], ◌∷◌, ◌++◌}
use lib.ListN.{replicate}
use Rattle.rules.specs.Relay.{fresh}
use Rattle.rules.specs.Arrival.{Arrival}
use Rattle.rules.specs.Calls.{new_tally}
use Rattle.rules.specs.Run.{Call, packet, port_setting, Outcome, perform}

-- our own address
abbrev pub own : List ℕ
own = replicate 16 0x0a

-- the output buffer that each packet call lends
abbrev pub blank : List ℕ
blank = replicate 500 0xee

-- ---- packets
-- an announce's blob: five random bytes, and five of emission time
abbrev pub blob_with : List ℕ → List ℕ
blob_with emission = replicate 5 0x33 ++ emission

-- its payload: keys, name hash, blob, ratchet and signature
abbrev pub announce_body : List ℕ → List ℕ
announce_body emission = replicate 64 0x11 ++ (replicate 10 0x22 ++ (blob_with emission ++ replicate 96 0x44))

-- the destination of those keys and that name hash
abbrev pub destination : List ℕ
destination = 0x73 ∷ 0xf1 ∷ 0xc6 ∷ 0x04 ∷ 0xf8 ∷ 0xe4 ∷ 0xb9 ∷ 0xc8 ∷ 0x50 ∷ 0x02 ∷ 0x02 ∷ 0x77 ∷ 0x4a ∷ 0x10 ∷ 0xb2 ∷ 0x4f ∷ []

abbrev pub announce_with : List ℕ → List ℕ
announce_with emission = 0x21 ∷ 0 ∷ (destination ++ (0x00 ∷ announce_body emission))

-- emitted at 1,700,000,000
abbrev pub emission : List ℕ
emission = 0x00 ∷ 0x65 ∷ 0x53 ∷ 0xf1 ∷ 0x00 ∷ []

abbrev pub announce_bytes : List ℕ
announce_bytes = announce_with emission

abbrev pub data_body : List ℕ
data_body = replicate 20 0x55

-- data to that destination, which a neighbour asks us to carry
abbrev pub data_bytes : List ℕ
data_bytes = 0x50 ∷ 3 ∷ (own ++ (destination ++ (0x00 ∷ data_body)))

-- the first 16 of its packet hash
abbrev pub data_key : List ℕ
data_key = 0x2f ∷ 0xc0 ∷ 0x8c ∷ 0x1e ∷ 0x2c ∷ 0x09 ∷ 0xe4 ∷ 0x1d ∷ 0x00 ∷ 0x28 ∷ 0xc5 ∷ 0xd7 ∷ 0xf2 ∷ 0x25 ∷ 0x31 ∷ 0xcc ∷ []

-- the receipt for it, with the hops given
abbrev pub receipt_bytes : ℕ → List ℕ
receipt_bytes hops = 0x03 ∷ hops ∷ (data_key ++ (0x00 ∷ replicate 64 0x77))

abbrev pub request_body : List ℕ
request_body = replicate 64 0x66

-- a link request to the destination
abbrev pub request_bytes : List ℕ
request_bytes = 0x52 ∷ 3 ∷ (own ++ (destination ++ (0x00 ∷ request_body)))

-- its link id
abbrev pub link : List ℕ
link = 0x59 ∷ 0xb6 ∷ 0xc5 ∷ 0xb6 ∷ 0x79 ∷ 0x54 ∷ 0x94 ∷ 0xf6 ∷ 0x50 ∷ 0x41 ∷ 0x04 ∷ 0x74 ∷ 0x19 ∷ 0x14 ∷ 0x46 ∷ 0x26 ∷ []

-- the link's proof, and a packet of the link, with the hops given
abbrev pub link_proof_bytes : ℕ → List ℕ
link_proof_bytes hops = 0x0f ∷ hops ∷ (link ++ (0xff ∷ replicate 96 0x88))

abbrev pub link_bytes : ℕ → List ℕ
link_bytes hops = 0x0c ∷ hops ∷ (link ++ (0x00 ∷ replicate 16 0x99))

-- ---- calls
-- a packet comes in by a port at a clock; its signature, if one is asked for, is good
abbrev pub arrival : List ℕ → ℕ → ℕ → Arrival
arrival bytes clock port = record { bytes = bytes; port = port; clock = clock; signed = true }

abbrev pub arrives : List ℕ → ℕ → ℕ → Call
arrives bytes clock port = packet (arrival bytes clock port) blank

-- the call, on what another left
abbrev pub next : Call → Outcome → Outcome
next c before = perform c before.relay before.tally

-- a fresh relay with port 1 on, roaming, and port 2 on, boundary
unfoldable pub prepared : Outcome
prepared = next (port_setting 2 true 0 500) (perform (port_setting 1 true 2 500) (fresh own) new_tally)

-- the announce comes in by port 1 at 1,000
unfoldable pub announced : Outcome
announced = next (arrives announce_bytes 1000 1) prepared

-- data to the destination comes in by port 2
unfoldable pub carried : Outcome
carried = next (arrives data_bytes 2000 2) announced

-- or a link request, and then the link's proof by port 1
unfoldable pub asked : Outcome
asked = next (arrives request_bytes 2000 2) announced

unfoldable pub proved : Outcome
proved = next (arrives (link_proof_bytes 0) 2001 1) asked
