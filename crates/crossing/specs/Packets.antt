-- How the parts of a packet and a writing lie in bytes and numbers, and where a packet's payload starts.
use Rattle.std.specs.Prelude.{ℕ, ◌+◌, ◌*◌, List, [], ◌∷◌, ◌++◌, ◌≡◌, ltb, length}
use Rattle.octets.specs.Choice.{◌then◌otherwise◌}
use Rattle.packet.specs.Read.{header_of, type_two_parts, payload_start}
use Rattle.packet.specs.Write.{Writing}
use Rattle.packet.specs.declared.Parts.{Parts}
use Rattle.numbers.specs.Refusals.{Written}
use Rattle.crossing.specs.Bits.{refusal_span}

-- the parts in 35 bytes: header, hops, relay address, destination, context, at the places of a type 2 packet
unfoldable pub parts_bytes : Parts → List ℕ
parts_bytes q = q.header ∷ q.hops ∷ (q.relay ++ (q.destination ++ (q.context ∷ [])))

-- the parts that 35 bytes hold
abbrev pub parts_in : List ℕ → Parts
parts_in bytes = type_two_parts bytes

-- where the payload starts in these bytes: at 19 or 35 by the header, or at their end where that comes first
unfoldable pub payload_place : List ℕ → ℕ
payload_place p = ltb (length p) (payload_start (header_of p)) then length p otherwise payload_start (header_of p)

-- a writing as one number: the refusal or 0 in the low 16 bits, the length in those above
unfoldable pub written_number : Written → ℕ
written_number w = w.length * refusal_span + w.refusal

-- what a writing returned and left is this
abbrev pub Writes : Writing → ℕ → List ℕ → Type 0
Writes w number output = (number ≡ written_number w.answer) × (output ≡ w.output)
