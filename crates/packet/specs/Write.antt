-- Document 01, "Packet layout" and refusals 6, 2 and 3: writing a packet.
use Rattle.std.specs.Prelude.{ℕ, List, [], ◌∷◌, ◌++◌, ◌≡◌, eqb, ltb, length}
use Rattle.octets.specs.Part.{patch}
use Rattle.octets.specs.Choice.{◌then◌otherwise◌}
use Rattle.octets.specs.Listed.{Test, ◌gives◌otherwise◌, first_of}
pub use Rattle.numbers.specs.Numbers.{least_output}
use Rattle.packet.specs.Header.{access_code, type_two}
use Rattle.packet.specs.Places.{address_width}
use Rattle.packet.specs.Read.{longest_packet, no_address}
use Rattle.packet.specs.declared.Parts.{Parts}
use Rattle.numbers.specs.Refusals.{Written}

-- both addresses are sixteen bytes, as a value of the code always has them
pub record Wide (q : Parts) : Type 0 where
  pub relay : length q.relay ≡ address_width
  pub destination : length q.destination ≡ address_width

-- the addresses: in type 1 writing ignores the relay address
unfoldable pub addresses : Parts → List ℕ
addresses q = type_two q.header then q.relay ++ q.destination otherwise q.destination

unfoldable pub packet_of : Parts → List ℕ → List ℕ
packet_of q body = q.header ∷ q.hops ∷ (addresses q ++ (q.context ∷ body))

-- ---- the refusals of a writing into a buffer of `room` bytes: 6, 2, 3
unfoldable pub writing_rows : ℕ → Parts → List ℕ → List (Test ℕ)
writing_rows room q body =
    ltb room least_output gives 6 otherwise
    ltb longest_packet (length (packet_of q body)) gives 2 otherwise
    access_code q.header gives 3 otherwise
    []

-- the refusal's number, or 0
unfoldable pub writing_refusal : ℕ → Parts → List ℕ → ℕ
writing_refusal room q body = first_of (writing_rows room q body) 0

-- the answer, and the output buffer after it: a refusal leaves it as it was, and bytes past the packet stay
pub record Writing : Type 0 where
  pub answer : Written
  pub output : List ℕ

unfoldable pub writing : Parts → List ℕ → List ℕ → Writing
writing q body output =
    eqb (writing_refusal (length output) q body) 0
    then record { answer = record { refusal = 0; length = length (packet_of q body) }; output = patch output 0 (packet_of q body) }
    otherwise record { answer = record { refusal = writing_refusal (length output) q body; length = 0 }; output = output }

-- the parts as they read back: in type 1 the relay address is zeros
unfoldable pub read_back : Parts → Parts
read_back q =
    type_two q.header then q otherwise
    record { header = q.header; hops = q.hops; relay = no_address; destination = q.destination; context = q.context }
